use Rattle.std.proofs.Common.{◌∙◌}
use Rattle.numbers.proofs.Refusals.{never}
use mathlib.Core.Path.{refl}
use Rattle.thermal_image.specs.Canvas.{made_new}
use Rattle.thermal_image.proofs.Answers.{refused, did}
use Rattle.thermal_image.proofs.ThermalImage.new.Goals as goal

pub returns-in-Err : goal.returns-in-Err
unfolding made_new
returns-in-Err c = c.refused.ensures ∙ refused c.in-Err.ensures _ _ (never _)

pub returns : goal.returns
unfolding made_new
returns c = did c.in_default.ensures _ _ refl refl
