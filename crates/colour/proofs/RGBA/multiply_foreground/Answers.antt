-- `colour::RGBA::multiply_foreground` meets its contract. Assumes nothing.
use Rattle.colour.proofs.Laws.{multiplied-none, multiplied-some}
use Rattle.colour.proofs.RGBA.multiply_foreground.Goals as goal

pub returns-then-color-eq-TRANSPARENT : goal.returns-then-color-eq-TRANSPARENT
returns-then-color-eq-TRANSPARENT c = multiplied-none c.args.color c.args.self c.if-color-eq-TRANSPARENT.true

pub returns : goal.returns
returns c =
    let p = c in
    let q = p.args in
    multiplied-some q.color q.self p.if-color-eq-TRANSPARENT.false c.multiply_channel.ensures.value c.multiply_channel-2.ensures.value c.multiply_channel-3.ensures.value
