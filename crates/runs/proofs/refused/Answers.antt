use mathlib.Core.Path.{refl}
use Rattle.job.specs.Dropping.{filled_up}
use Rattle.runs.proofs.refused.Goals as goal

pub returns : goal.returns
unfolding filled_up
returns c = rw c.number.ensures refl
