use Rattle.std.proofs.Common.{refl}
use Rattle.numbers.proofs.Refusals.{never}
use mathlib.Core.Path.{sym, ◌∙◌}
use native.Mathlib.Omega.{arith}
use Rattle.thermal_image.proofs.Answers.{refused, did, kept, changed}
use Rattle.places.specs.Places.{put_refusal, rect_refusal}
use Rattle.drawing.specs.Drawing.{drew, rect, rect_on}
use Rattle.places.proofs.Codes.{put-ready}
use Rattle.drawing.proofs.Growing.{grows-within, placing}
use Rattle.drawing.proofs.rect.draw_rect.Goals as goal

pub returns-in-Err : goal.returns-in-Err
unfolding rect drew rect_on rect_refusal put_refusal
returns-in-Err c =
    let g = rw c.tall_after-rows.ensures at c.in-Err.ensures in record { value = c.refused.ensures ∙ refused g _ _ (never _); buf_after = kept g _ _ (never _) }

pub overflow_cast-rows : goal.overflow_cast-rows
overflow_cast-rows c = let r = put-ready _ _ _ _ _ _ _ c.tall_after-rows.ensures (sym c.in_default.ensures) in omega (arith, grows-within _ _ _ r.more _ r.grows)

pub draw_area-requires : goal.draw_area-requires
draw_area-requires c =
    (placing _ _ _ _ _ _ _ (put-ready _ _ _ _ _ _ _ c.tall_after-rows.ensures (sym c.in_default.ensures)) c.crop_pixels-c.ensures.0 c.crop_pixels-c.ensures.1 c.expand_to_height-answer.ensures.value c.expand_to_height-answer.ensures.buf_after).fits

pub returns : goal.returns
unfolding rect drew rect_on rect_refusal put_refusal
returns c =
    let s = c.tall_after-rows.ensures in
    let n = rw s at c.in_default.ensures in
    let g = placing _ _ _ _ _ _ _ (put-ready _ _ _ _ _ _ _ c.tall_after-rows.ensures (sym c.in_default.ensures)) c.crop_pixels-c.ensures.0 c.crop_pixels-c.ensures.1 c.expand_to_height-answer.ensures.value c.expand_to_height-answer.ensures.buf_after in
    record { value = did n _ _ refl (g.answer ∙ rw s); buf_after = changed n _ _ refl (g.bytes _ c.draw_area.ensures ∙ rw s) }
