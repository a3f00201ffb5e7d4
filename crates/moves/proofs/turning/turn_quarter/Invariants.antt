-- `moves::turning::turn_quarter` meets its contract. Assumes nothing.
use Rattle.std.proofs.Common.{◌≡◌, ◌*◌}
use Rattle.dots.specs.Dots.{change}
use Rattle.moves.specs.Moves.{turned_dot}
use Rattle.moves.specs.Steps.{quarter, in_rect}
use Rattle.moves.proofs.turning.turn_quarter.Given as goal

abbrev pub invariant-loop-s : goal.invariant-loop-s
invariant-loop-s l = l.out ≡ change (in_rect l.h 0 (l.s * 16) 0 l.w) (turned_dot (quarter l.left) l.w l.h l.src) l.initial.out
