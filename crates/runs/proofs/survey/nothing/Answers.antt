-- `runs::survey::nothing` meets its contract. Assumes nothing.
use mathlib.Core.Path.{refl}
use Rattle.job.specs.Dropping.{filled_up}
use Rattle.runs.proofs.survey.nothing.Goals as goal

pub returns : goal.returns
unfolding filled_up
returns c = refl
