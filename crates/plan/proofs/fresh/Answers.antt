-- `plan::fresh` meets its contract. Assumes nothing.
use mathlib.Core.Path.{refl}
use Rattle.job.specs.Dropping.{filled_up}
use Rattle.plan.proofs.fresh.Goals as goal

pub returns : goal.returns
unfolding filled_up
returns c = rw c.no_entry.ensures refl
