use Rattle.std.proofs.Common.{refl}
use Rattle.numbers.proofs.Refusals.{never}
use mathlib.Core.Path.{sym, ◌∙◌}
use Rattle.thermal_image.proofs.Answers.{refused, did, kept, changed}
use Rattle.places.specs.Places.{put_refusal}
use Rattle.drawing.specs.Drawing.{drew, put, put_on}
use Rattle.places.proofs.Codes.{put-ready}
use Rattle.drawing.proofs.put.put_pixels.Goals as goal

pub returns-in-Err : goal.returns-in-Err
unfolding put drew put_on put_refusal
returns-in-Err c =
    let g = rw c.tall_after-rows.ensures at c.in-Err.ensures in record { value = c.refused.ensures ∙ refused g _ _ (never _); buf_after = kept g _ _ (never _) }

pub put_on-requires : goal.put_on-requires
put_on-requires c = put-ready _ _ _ _ _ _ _ c.tall_after-rows.ensures (sym c.in_default.ensures)

pub returns : goal.returns
unfolding put drew put_on put_refusal
returns c =
    let e = c.tall_after-rows.ensures in
    let g = rw e at c.in_default.ensures in record { value = did g _ _ refl (c.put_on.ensures.value ∙ rw e); buf_after = changed g _ _ refl (c.put_on.ensures.buf_after ∙ rw e) }
