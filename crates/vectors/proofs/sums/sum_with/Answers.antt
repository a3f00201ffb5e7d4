-- `vectors::sums::sum_with` meets its contract.
use Rattle.std.proofs.Common.{refl}
use Rattle.vectors.specs.Sums.{summed}
use Rattle.vectors.proofs.sums.sum_with.Goals as goal

pub returns : goal.returns
unfolding summed
returns c = refl
