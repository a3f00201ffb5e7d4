-- `dots::draw_dot` meets its contract. Assumes nothing.
use Rattle.dots.specs.Dots.{drawn}
use Rattle.dots.proofs.draw.draw_dot.Goals as goal

pub returns-then-multiply : goal.returns-then-multiply
unfolding drawn
returns-then-multiply c = rw c.if-multiply.true c.multiply_dot.ensures

pub returns : goal.returns
unfolding drawn
returns c = rw c.if-multiply.false c.blend_foreground.ensures
