use Rattle.std.proofs.Common.{refl}
use Rattle.numbers.proofs.Refusals.{never}
use mathlib.Core.Path.{sym}
use native.Mathlib.Omega.{arith}
use Rattle.numbers.proofs.Sides.{area}
use Rattle.thermal_image.specs.Canvas.{rgb, rgb_on}
use Rattle.refusals.proofs.Codes.{rgb-done}
use Rattle.thermal_image.proofs.Answers.{kept, changed, rgb-refused, rgb-did}
use Rattle.thermal_image.proofs.ThermalImage.consume_rgb_u8.Goals as goal

pub returns-in-Err : goal.returns-in-Err
unfolding rgb rgb_on
returns-in-Err c = record { value = rw c.number.ensures (rgb-refused c.in-Err.ensures _ (never _)); out_after = kept c.in-Err.ensures _ _ (never _) }

pub overflow_mul-dots : goal.overflow_mul-dots
overflow_mul-dots c = let s = ((rgb-done _ _ _ _ (sym c.in_default.ensures))).0 in omega (arith, area s.width s.height)

pub rgb_bytes-requires : goal.rgb_bytes-requires
rgb_bytes-requires c = let g = (rgb-done _ _ _ _ (sym c.in_default.ensures)) in (omega (arith, g.0.room), omega (arith, g.1))

pub returns : goal.returns
unfolding rgb rgb_on
returns c =
    record { value = rgb-did c.in_default.ensures _ refl c.sized-answer.ensures; out_after = changed c.in_default.ensures _ _ refl c.rgb_bytes.ensures }
