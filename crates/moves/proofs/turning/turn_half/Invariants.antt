-- `moves::turning::turn_half` meets its contract. Assumes nothing.
use Rattle.std.proofs.Common.{◌≡◌}
use Rattle.dots.specs.Dots.{change, within}
use Rattle.moves.proofs.Turns.{backwards}
use Rattle.moves.proofs.turning.turn_half.Given as goal

abbrev pub invariant-loop-i : goal.invariant-loop-i
invariant-loop-i l = l.out ≡ change (within 0 l.i) (backwards l.src l.n) l.initial.out
