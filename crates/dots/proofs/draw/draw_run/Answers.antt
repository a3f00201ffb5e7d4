-- `dots::draw::draw_run` meets its contract. Assumes nothing.
use Rattle.std.proofs.Common.{sym, ◌∙◌, arith}
use Rattle.dots.proofs.Laws.{change-idle, change-by, drawn-none, tables-multiply, no-tables, covers-full}
use Rattle.dots.proofs.draw.draw_run.Goals as goal

pub returns-then-c-eq-TRANSPARENT : goal.returns-then-c-eq-TRANSPARENT
returns-then-c-eq-TRANSPARENT c =
    let a = c.args in
    change-idle _ _ a.buf.now (λ i e. drawn-none a.multiply a.c _ c.if-c-eq-TRANSPARENT.true)

pub returns-then-needs_tables : goal.returns-then-needs_tables
returns-then-needs_tables c =
    rw (tables-multiply _ _ (sym c.needs_tables.ensures ∙ c.if-needs_tables.true)) c.multiply_some.ensures

pub returns-then-covers : goal.returns-then-covers
returns-then-covers c =
    let a = c.args in
    c.fill_run.ensures ∙ change-by _ _ _ a.buf.now (λ i z. covers-full a.multiply a.c _ (sym c.covers.ensures ∙ c.if-covers.true))

pub of-requires : goal.of-requires
of-requires c =
    record { whole = no-tables _ _ (omega arith) (sym c.needs_tables.ensures ∙ c.if-needs_tables.false); made = (c.mix_factors-factor.ensures, c.mix_terms-term.ensures) }
