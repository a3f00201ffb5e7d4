-- `areas::draw::multiply_area` meets its contract. Assumes nothing.
use Rattle.std.proofs.Common.{◌∙◌, refl}
use Rattle.dots.proofs.Laws.{drawn-multiplied}
use Rattle.areas.proofs.Laws.{area-by}
use Rattle.areas.proofs.draw.multiply_area.Goals as goal

pub returns : goal.returns
returns c =
    rw c.of.ensures at c.draw_rows-2.ensures ∙ area-by _ _ _ _ _ _ c.args.buf.now _ (λ i j u v. drawn-multiplied c.args.c _ refl)
