use Rattle.std.proofs.Common.{refl}
use Rattle.numbers.proofs.Refusals.{never}
use mathlib.Core.Path.{sym}
use native.Mathlib.Omega.{arith}
use Rattle.numbers.proofs.Sides.{area}
use Rattle.thermal_image.specs.Canvas.{copied, copied_on}
use Rattle.refusals.proofs.Codes.{out-done}
use Rattle.thermal_image.proofs.Answers.{kept, changed, copy-refused, copy-did}
use Rattle.thermal_image.proofs.ThermalImage.copy.Goals as goal

pub returns-in-Err : goal.returns-in-Err
unfolding copied copied_on
returns-in-Err c = record { value = rw c.number.ensures (copy-refused c.in-Err.ensures _ (never _)); out_after = kept c.in-Err.ensures _ _ (never _) }

pub overflow_mul-dots : goal.overflow_mul-dots
overflow_mul-dots c = let s = ((out-done _ _ _ _ (sym c.in_default.ensures))).0 in omega (arith, area s.width s.height)

pub copy_dots-requires : goal.copy_dots-requires
copy_dots-requires c = let g = (out-done _ _ _ _ (sym c.in_default.ensures)) in (omega (arith, g.0.room), omega (arith, g.1))

pub returns : goal.returns
unfolding copied copied_on
returns c =
    record { value = copy-did c.in_default.ensures _ refl; out_after = changed c.in_default.ensures _ _ refl c.copy_dots.ensures }
