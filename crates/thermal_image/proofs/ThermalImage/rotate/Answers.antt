use Rattle.std.proofs.Common.{refl}
use Rattle.numbers.proofs.Refusals.{never}
use mathlib.Core.Path.{sym, ◌∙◌}
use native.Mathlib.Omega.{arith}
use Rattle.thermal_image.specs.Canvas.{rotated, rotated_on}
use Rattle.refusals.proofs.Codes.{out-done}
use Rattle.thermal_image.proofs.Answers.{refused, did, kept, changed}
use Rattle.thermal_image.proofs.ThermalImage.rotate.Goals as goal

pub returns-in-Err : goal.returns-in-Err
unfolding rotated rotated_on
returns-in-Err c = record { value = c.refused.ensures ∙ refused c.in-Err.ensures _ _ (never _); out_after = kept c.in-Err.ensures _ _ (never _) }

pub turn-requires : goal.turn-requires
turn-requires c = let g = (out-done _ _ _ _ (sym c.in_default.ensures)) in (omega (arith, g.0.room), omega (arith, g.1))

pub returns : goal.returns
unfolding rotated rotated_on
returns c =
    record { value = did c.in_default.ensures _ _ refl (c.sized.ensures ∙ rw (c.rows_of.ensures, c.turned_wide-width.ensures, c.turned_wide-height.ensures)); out_after = changed c.in_default.ensures _ _ refl c.turn.ensures }
