use Rattle.std.proofs.Common.{◌∙◌}
use Rattle.std.proofs.Common.{refl}
use Rattle.numbers.proofs.Refusals.{never}
use Rattle.thermal_image.specs.Canvas.{set_width}
use Rattle.thermal_image.proofs.Answers.{refused, did}
use Rattle.thermal_image.proofs.ThermalImage.set_width.Goals as goal

pub returns-in-Err : goal.returns-in-Err
unfolding set_width
returns-in-Err c = c.refused.ensures ∙ refused c.in-Err.ensures _ _ (never _)

pub returns : goal.returns
unfolding set_width
returns c = did c.in_default.ensures _ _ refl c.sized.ensures
