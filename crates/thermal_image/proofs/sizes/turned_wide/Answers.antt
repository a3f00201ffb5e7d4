-- `thermal_image::sizes::turned_wide` meets its contract. Assumes nothing.
use Rattle.moves.specs.Moves.{turned_wide}
use Rattle.thermal_image.proofs.sizes.turned_wide.Goals as goal

pub returns-in-Quarter : goal.returns-in-Quarter
unfolding turned_wide
returns-in-Quarter c = rw c.in-Quarter.is

pub returns-in-Half : goal.returns-in-Half
unfolding turned_wide
returns-in-Half c = rw c.in-Half.is

pub returns-in-ThreeQuarters : goal.returns-in-ThreeQuarters
unfolding turned_wide
returns-in-ThreeQuarters c = rw c.in-ThreeQuarters.is
