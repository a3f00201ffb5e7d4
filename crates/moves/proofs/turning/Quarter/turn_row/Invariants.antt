-- `moves::turning::turn_row` meets its contract. Assumes nothing.
use Rattle.std.proofs.Common.{◌≡◌, ◌+◌}
use Rattle.dots.specs.Dots.{change}
use Rattle.moves.specs.Moves.{turned_dot}
use Rattle.moves.specs.Steps.{quarter, in_rect}
use Rattle.moves.proofs.turning.Quarter.turn_row.Given as goal

abbrev pub invariant-loop-k : goal.invariant-loop-k
invariant-loop-k l = l.out ≡ change (in_rect l.self.h l.c l.k l.r (l.r + 1)) (turned_dot (quarter l.self.left) l.self.w l.self.h l.self.src.now) l.initial.out
