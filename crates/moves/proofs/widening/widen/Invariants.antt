-- `moves::widen` meets its contract. Assumes nothing.
use Rattle.std.proofs.Common.{◌≡◌, ◌*◌}
use Rattle.dots.specs.Dots.{change, within}
use Rattle.moves.proofs.Rows.{padded_dot}
use Rattle.moves.proofs.widening.widen.Given as goal

abbrev pub invariant-loop-r : goal.invariant-loop-r
invariant-loop-r l = l.buf ≡ change (within (l.r * l.wide) (l.h * l.wide)) (padded_dot l.w l.wide l.left l.paper l.initial.buf) l.initial.buf
