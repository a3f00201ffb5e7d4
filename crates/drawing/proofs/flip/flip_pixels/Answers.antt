use Rattle.std.proofs.Common.{refl}
use Rattle.numbers.proofs.Refusals.{never}
use mathlib.Core.Path.{sym, ◌∙◌}
use native.Mathlib.Omega.{arith}
use lib.ListN.{length}
use Rattle.thermal_image.proofs.Answers.{refused, did, kept, changed}
use Rattle.drawing.specs.Drawing.{drew, flip, flip_on}
use Rattle.places.proofs.Codes.{Flips, flip-done}
use Rattle.drawing.proofs.Growing.{grows-within, grew}
use Rattle.drawing.proofs.flip.flip_pixels.Goals as goal
use Rattle.drawing.proofs.flip.flip_pixels.Goals.{After-flip_tall-rows}

bounds : (c : After-flip_tall-rows) → let p = c.args in Flips p.image p.x p.y p.w p.h c.flip_tall-rows.result (length p.buf.now)
bounds c = flip-done _ _ _ _ _ _ c.flip_tall-rows.ensures (sym c.in_default.ensures)

pub returns-in-Err : goal.returns-in-Err
unfolding flip drew flip_on
returns-in-Err c =
    record { value = c.refused.ensures ∙ refused c.in-Err.ensures _ _ (never _); buf_after = kept c.in-Err.ensures _ _ (never _) }

pub overflow_cast-rows : goal.overflow_cast-rows
overflow_cast-rows c = let f = bounds (goal.at.overflow_cast-rows c).After-flip_tall-rows in omega (arith, grows-within _ _ _ f.more _ f.grows)

pub flip_area-requires : goal.flip_area-requires
flip_area-requires c =
    let f = bounds (goal.at.flip_area-requires c).After-flip_tall-rows in
    (grew _ _ _ (omega (arith, f.on)) f.more f.grows c.expand_to_height-answer.ensures.value c.expand_to_height-answer.ensures.buf_after).fits _ _ _ _ f.across f.down

pub returns : goal.returns
unfolding flip drew flip_on
returns c =
    let f = bounds (goal.at.returns c).After-flip_tall-rows in
    let s = c.flip_tall-rows.ensures in
    let g = grew _ _ _ (omega (arith, f.on)) f.more f.grows c.expand_to_height-answer.ensures.value c.expand_to_height-answer.ensures.buf_after in
    record { value = did c.in_default.ensures _ _ refl (g.answer ∙ rw s); buf_after = changed c.in_default.ensures _ _ refl (c.flip_area.ensures ∙ rw (g.bytes, s)) }
