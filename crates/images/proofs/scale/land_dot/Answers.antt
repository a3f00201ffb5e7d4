-- `images::scale::land_dot` meets its contract. Assumes nothing.
use mathlib.Core.Path.{◌∙◌}
use Rattle.bits.specs.Bits.{landed}
use Rattle.images.proofs.scale.land_dot.Goals as goal

pub returns-then-blend : goal.returns-then-blend
unfolding landed
returns-then-blend c =
    rw c.if-blend.true (c.set_dot.ensures ∙ rw (c.blend_foreground.ensures, c.get_dot-d.ensures))

pub returns : goal.returns
unfolding landed
returns c = rw c.if-blend.false c.set_dot-2.ensures
