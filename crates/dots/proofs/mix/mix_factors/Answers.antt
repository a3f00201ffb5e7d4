-- `dots::mix::mix_factors` meets its contract. Assumes nothing.
use mathlib.Core.Path.{ap, ◌∙◌}
use Rattle.dots.specs.Tables.{lanes}
use Rattle.dots.proofs.Mixed.{factors-multiplied, factors-full, factors-some}
use Rattle.dots.proofs.mix.mix_factors.Goals as goal

pub returns-then-multiply : goal.returns-then-multiply
returns-then-multiply c = c.lanes.ensures ∙ ap lanes (factors-multiplied _ c.if-multiply.true)

pub returns-then-c-eq-OPAQUE : goal.returns-then-c-eq-OPAQUE
returns-then-c-eq-OPAQUE c =
    c.lanes-then-c-eq-OPAQUE.ensures ∙ ap lanes (factors-full _ c.if-multiply.false c.if-c-eq-OPAQUE.true)

pub returns : goal.returns
returns c = c.lanes-2.ensures ∙ ap lanes (factors-some _ c.if-multiply.false c.if-c-eq-OPAQUE.false)
