-- `areas::draw_area` meets its contract. Assumes nothing.
use Rattle.std.proofs.Common.{◌∙◌, sym, arith}
use Rattle.dots.proofs.Laws.{drawn-none, tables-multiply, no-tables, covers-full}
use Rattle.areas.proofs.Laws.{area-idle, area-by}
use Rattle.areas.proofs.draw.draw_area.Goals as goal

pub returns-then-c-eq-TRANSPARENT : goal.returns-then-c-eq-TRANSPARENT
returns-then-c-eq-TRANSPARENT c =
    let a = c.args in
    area-idle _ _ _ _ _ _ a.buf.now (λ i j u v. drawn-none a.multiply a.c _ c.if-c-eq-TRANSPARENT.true)

pub returns-then-needs_tables : goal.returns-then-needs_tables
returns-then-needs_tables c = rw (tables-multiply _ _ (sym c.needs_tables.ensures ∙ c.if-needs_tables.true)) c.multiply_area.ensures

pub returns-then-covers : goal.returns-then-covers
returns-then-covers c =
    let a = c.args in
    c.draw_rows.ensures ∙ area-by _ _ _ _ _ _ a.buf.now _ (λ i j u v. covers-full a.multiply a.c _ (sym c.covers.ensures ∙ c.if-covers.true))

pub of-mix-requires : goal.of-mix-requires
of-mix-requires c =
    record { whole = no-tables _ _ (omega arith) (sym c.needs_tables.ensures ∙ c.if-needs_tables.false); made = (c.mix_factors-factor.ensures, c.mix_terms-term.ensures) }
