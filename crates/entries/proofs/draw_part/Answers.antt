-- `entries::draw_part` meets its contract. Assumes nothing.
use Rattle.entries.proofs.Drawing.{image-kind, own-rectangle, own-image}
use Rattle.entries.proofs.draw_part.Goals as goal

pub returns-then-e-eq-RECTANGLE : goal.returns-then-e-eq-RECTANGLE
returns-then-e-eq-RECTANGLE c = own-rectangle _ c.args.e _ _ _ _ _ _ _ c.if-e-eq-RECTANGLE.true c.draw_area.ensures

pub image_rows-requires-clause-part : goal.image_rows-requires-clause-part
image_rows-requires-clause-part c =
    let p = c.requires.part in
    (image-kind _ _ p.0 c.if-e-eq-RECTANGLE.false, p.1, p.2)

pub returns : goal.returns
returns c = own-image _ c.args.e _ _ _ _ _ _ _ c.if-e-eq-RECTANGLE.false c.image_rows.ensures
