-- `images::sizes::factor_of` meets its contract. Assumes nothing.
use Rattle.std.proofs.Common.{◌∙◌}
use Rattle.images.proofs.Sides.{factor-max}
use Rattle.images.proofs.sizes.factor_of.Goals as goal

pub returns : goal.returns
returns c = c.max.ensures ∙ factor-max c.args.stretch
