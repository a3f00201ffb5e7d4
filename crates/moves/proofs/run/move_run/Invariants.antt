-- `moves::move_run` meets its contract. Assumes nothing.
use Rattle.std.proofs.Common.{◌≡◌, ◌+◌, ◌*◌}
use Rattle.dots.specs.Dots.{within}
use Rattle.moves.specs.Parts.{over}
use Rattle.moves.proofs.Runs.{moved_byte}
use Rattle.moves.proofs.run.move_run.Given as goal

abbrev pub invariant-loop-i : goal.invariant-loop-i
invariant-loop-i l = l.buf ≡ over (within (l.to + l.i) (l.to + l.count * 4)) (moved_byte l.from l.to l.initial.buf) l.initial.buf
