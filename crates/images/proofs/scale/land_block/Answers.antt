-- `images::scale::land_block` meets its contract. Assumes nothing.
use Rattle.std.proofs.Common.{ap, not, ne_eqb, arith}
use Rattle.images.proofs.Scaling.{dot-block}
use Rattle.images.proofs.scale.land_block.Goals as goal

pub returns-then-this-ne0 : goal.returns-then-this-ne0
returns-then-this-ne0 g c =
    let a = c.args in
    let one = c.requires.1 (ap not (ne_eqb _ 0 c.if-this-ne0.true)) in
    dot-block a.count a.at a.blend a.pixel a.out.now one (omega (arith, one)) c.land_dot.ensures
