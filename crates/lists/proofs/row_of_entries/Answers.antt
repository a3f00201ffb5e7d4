use Rattle.std.proofs.Common.{sym, arith, ◌∙◌}
use Rattle.numbers.proofs.Refusals.{never}
use mathlib.Core.Path.{refl}
use Rattle.rows.proofs.Rules.{row-given, all-wider}
use Rattle.rows.proofs.Lines.{band-one}
use Rattle.rows.proofs.Answers.{row-refused, row_kept}
use Rattle.lists.proofs.Laws.{drawn-all, drawn-end}
use Rattle.lists.proofs.row_of_entries.Goals as goal

pub returns-in-Err : goal.returns-in-Err
returns-in-Err c =
    let e = rw c.good_list-good.ensures at c.in-Err.ensures in
    let paper = c.args.paper_color in
    record { value = c.refused.ensures ∙ row-refused _ _ _ paper _ _ _ _ e (never _); line_after = row_kept _ _ _ paper _ _ _ _ e (never _) }

pub draw_rows-requires : goal.draw_rows-requires
draw_rows-requires c =
    let g = row-given _ _ _ _ _ _ _ (sym (rw c.good_list-good.ensures at c.in_default.ensures)) in
    let z = g.good.sizes in
    record { good = (z.some, z.wide, all-wider _ _ _ _ z.tall g.good.entries); room = (omega (arith, g.below, z.tall), omega (arith, g.room)) }

pub ink_of-ink-requires : goal.ink_of-ink-requires
ink_of-ink-requires c =
    let g = row-given _ _ _ _ _ _ _ (sym (rw c.good_list-good.ensures at c.in_default.ensures)) in
    (omega (arith, g.room), g.good.sizes.wide)

pub shape_of-line : goal.shape_of-line
shape_of-line c = omega arith

pub returns : goal.returns
returns c =
    let a = c.args in
    let e = rw c.good_list-good.ensures at c.in_default.ensures in
    let d = c.draw_rows.ensures ∙ band-one _ _ a.paper_color _ _ _ in
    let t = drawn-all a.«data».now a.width a.height a.paper_color a.entries.now a.row a.line.now e d in
    let r = drawn-end a.«data».now a.width a.height a.paper_color a.entries.now a.row a.line.now t refl (refl, c.ink_of-ink.ensures, refl) in
    record { value = r.0; line_after = r.1 }
