-- `images::scale::land_run` meets its contract. Assumes nothing.
use Rattle.dots.specs.Dots.{drawn}
use Rattle.bits.specs.Bits.{landed}
use Rattle.images.proofs.scale.land_run.Goals as goal

pub returns-then-blend : goal.returns-then-blend
unfolding landed drawn
returns-then-blend c = rw c.if-blend.true c.draw_run.ensures

pub returns : goal.returns
unfolding landed
returns c = rw c.if-blend.false c.fill_run.ensures
