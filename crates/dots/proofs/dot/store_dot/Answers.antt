-- `dots::dot::store_dot` meets its contract. Assumes nothing.
use mathlib.Core.Path.{ap, ◌∙◌}
use Rattle.dots.specs.Dots.{set_dot}
use Rattle.dots.proofs.dot.store_dot.Goals as goal

pub returns : goal.returns
returns c =
    let a = c.args in
    c.set_dot.ensures ∙ ap (set_dot a.buf.now a.i) c.by_word.ensures
