-- `dots::dot::load_dot` meets its contract. Assumes nothing.
use mathlib.Core.Path.{◌∙◌}
use Rattle.dots.proofs.dot.load_dot.Goals as goal

pub returns : goal.returns
returns c = c.by_word.ensures ∙ c.get_dot.ensures
