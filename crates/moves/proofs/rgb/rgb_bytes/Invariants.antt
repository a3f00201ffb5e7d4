-- `moves::rgb_bytes` meets its contract. Assumes nothing.
use Rattle.std.proofs.Common.{◌≡◌, ◌*◌}
use Rattle.dots.specs.Dots.{within}
use Rattle.moves.specs.Parts.{over}
use Rattle.moves.proofs.Runs.{rgb_byte}
use Rattle.moves.proofs.rgb.rgb_bytes.Given as goal

abbrev pub invariant-loop-k : goal.invariant-loop-k
invariant-loop-k l = l.out ≡ over (within 0 (l.k * 3)) (rgb_byte l.src) l.initial.out
