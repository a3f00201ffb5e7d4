-- `dots::draw::multiply_some` meets its contract. Assumes nothing.
use Rattle.std.proofs.Common.{refl, ◌∙◌}
use Rattle.dots.proofs.Laws.{change-by, drawn-multiplied}
use Rattle.dots.proofs.draw.multiply_some.Goals as goal

pub returns : goal.returns
returns c = c.draw_dots-2.ensures ∙ rw c.of.ensures (change-by _ _ _ c.args.buf.now (λ i e. drawn-multiplied c.args.c _ refl))
