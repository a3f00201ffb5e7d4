use Rattle.std.proofs.Common.{refl}
use Rattle.numbers.proofs.Refusals.{never}
use mathlib.Core.Path.{◌≡◌, sym, ◌∙◌}
use native.Mathlib.Omega.{arith}
use lib.ListN.{length}
use Rattle.areas.proofs.Laws.{area-fits}
use Rattle.thermal_image.proofs.Answers.{refused, did, kept, changed}
use Rattle.places.specs.Places.{image_refusal}
use Rattle.drawing.specs.Drawing.{drew, image_put, image_placed, image_on}
use Rattle.places.proofs.Codes.{image-ready, flips-across, flips-down}
use Rattle.drawing.proofs.Growing.{grows-room}
use Rattle.drawing.proofs.put.put_render_img.Goals as goal
use Rattle.drawing.proofs.put.put_render_img.Goals.{After-put_on-answer}

-- what the put answers is the answer, flipped or not
put-answer : (c : After-put_on-answer) → let p = c.args in
    c.put_on-answer.result ≡ image_put p.upside_down p.image p.x p.y p.w p.h (length p.pixels.now) (length p.buf.now)
unfolding image_refusal image_put drew
put-answer c = let e = c.image_tall-rows.ensures in did (rw e at c.in_default.ensures) _ _ refl (c.put_on-answer.ensures.value ∙ rw e)

pub returns-in-Err : goal.returns-in-Err
unfolding image_put drew image_on image_refusal
returns-in-Err c =
    let g = rw c.image_tall-rows.ensures at c.in-Err.ensures in record { value = c.refused.ensures ∙ refused g _ _ (never _); buf_after = kept g _ _ (never _) }

pub put_on-answer-requires : goal.put_on-answer-requires
put_on-answer-requires c = image-ready _ _ _ _ _ _ _ _ c.image_tall-rows.ensures (sym c.in_default.ensures)

pub flip_area-requires : goal.flip_area-requires
flip_area-requires c =
    let r = image-ready _ _ _ _ _ _ _ _ c.image_tall-rows.ensures (sym c.in_default.ensures) in
    let e = sym c.flips.ensures ∙ c.if-flips.true in
    area-fits c.image_tall-rows.result (omega (arith, r.on)) (flips-across _ _ _ _ _ e) (rw c.image_tall-rows.ensures (flips-down _ _ _ _ _ _ e)) (omega (arith, grows-room _ _ _ r.more _ r.grows))

pub returns-then-flips : goal.returns-then-flips
unfolding image_on image_placed image_refusal
returns-then-flips c =
    let e = c.image_tall-rows.ensures in record { value = put-answer (goal.at.returns-then-flips c).After-put_on-answer; buf_after = changed (rw e at c.in_default.ensures) _ _ refl (c.flip_area.ensures ∙ rw (c.put_on-answer.ensures.buf_after, e, ← c.flips.ensures, c.if-flips.true)) }

pub returns : goal.returns
unfolding image_on image_placed image_refusal
returns c =
    record {
      value = put-answer (goal.at.returns c).After-put_on-answer;
      buf_after = changed (rw c.image_tall-rows.ensures at c.in_default.ensures) _ _ refl
          (c.put_on-answer.ensures.buf_after ∙ rw (c.image_tall-rows.ensures, ← c.flips.ensures, c.if-flips.false));
    }
