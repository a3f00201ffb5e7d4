-- `dots::mix::mix_terms` meets its contract. Assumes nothing.
use mathlib.Core.Path.{ap, ◌∙◌}
use Rattle.dots.specs.Tables.{lanes}
use Rattle.dots.proofs.Mixed.{terms-multiplied, terms-full, terms-some}
use Rattle.dots.proofs.mix.mix_terms.Goals as goal

pub returns-then-multiply : goal.returns-then-multiply
returns-then-multiply c = c.lanes.ensures ∙ ap lanes (terms-multiplied _ c.if-multiply.true)

pub returns-then-c-eq-OPAQUE : goal.returns-then-c-eq-OPAQUE
returns-then-c-eq-OPAQUE c =
    c.lanes-then-c-eq-OPAQUE.ensures ∙ rw (c.term-r.ensures, c.term-g.ensures, c.term-b.ensures, c.term.ensures)
    (ap lanes (terms-full _ c.if-multiply.false c.if-c-eq-OPAQUE.true))

pub returns : goal.returns
returns c =
    c.lanes-2.ensures ∙ rw (c.term-r.ensures, c.term-g.ensures, c.term-b.ensures)
    (ap lanes (terms-some _ c.if-multiply.false c.if-c-eq-OPAQUE.false))
