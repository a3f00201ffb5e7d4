-- `moves::lower::move_on` meets its contract. Assumes nothing.
use Rattle.std.proofs.Common.{◌≡◌, ◌+◌, ◌*◌}
use Rattle.dots.specs.Dots.{change, within}
use Rattle.moves.proofs.Pieces.{moved_dot}
use Rattle.moves.proofs.lower.move_on.Given as goal

abbrev pub invariant-loop-i : goal.invariant-loop-i
invariant-loop-i l = l.buf ≡ change (within (l.by + (l.rest + l.i * 16384)) (l.by + l.n)) (moved_dot l.by l.initial.buf) l.initial.buf
