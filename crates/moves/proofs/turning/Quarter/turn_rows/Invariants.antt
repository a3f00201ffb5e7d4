-- `moves::turning::turn_rows` meets its contract. Assumes nothing.
use Rattle.std.proofs.Common.{◌≡◌, ◌+◌}
use Rattle.dots.specs.Dots.{change}
use Rattle.moves.specs.Moves.{turned_dot}
use Rattle.moves.specs.Steps.{quarter, in_rect}
use Rattle.moves.proofs.turning.Quarter.turn_rows.Given as goal

abbrev pub invariant-loop-r : goal.invariant-loop-r
invariant-loop-r l = l.out ≡ change (in_rect l.self.h l.c (l.c + l.columns) 0 l.r) (turned_dot (quarter l.self.left) l.self.w l.self.h l.self.src.now) l.initial.out
