-- `moves::turn` meets its contract. Assumes nothing.
use Rattle.std.proofs.Common.{◌∙◌}
use Rattle.moves.specs.Steps.{quarter}
use Rattle.moves.proofs.Turns.{half-turned}
use Rattle.moves.proofs.turning.turn.Goals as goal

pub returns-in-Quarter : goal.returns-in-Quarter
unfolding quarter
returns-in-Quarter c =
    rw c.in-Quarter.is c.turn_quarter.ensures

pub returns-in-Half : goal.returns-in-Half
returns-in-Half c =
    rw c.in-Half.is (c.turn_half.ensures ∙ half-turned _ _ _ _)

pub returns-in-ThreeQuarters : goal.returns-in-ThreeQuarters
unfolding quarter
returns-in-ThreeQuarters c =
    rw c.in-ThreeQuarters.is c.turn_quarter-in-ThreeQuarters.ensures
