use Rattle.std.proofs.Common.{refl, sym, arith, ◌∙◌}
use Rattle.numbers.proofs.Refusals.{never, handed}
use Rattle.rows.proofs.Rules.{rows-asked, all-wider}
use Rattle.rows.proofs.Answers.{rows-kept, rows-drawn}
use Rattle.rows.proofs.rows.Goals as goal

pub returns-in_err-rows_refusal : goal.returns-in_err-rows_refusal
returns-in_err-rows_refusal c =
    let e = rw c.good_plan-good.ensures at c.in_err-rows_refusal.ensures in
    record { value = handed _ _ c.from_residual.ensures.1 ∙ e; buf_after = rows-kept _ c.args.plan _ _ _ e (never _) }

pub firsts-entries-requires : goal.firsts-entries-requires
firsts-entries-requires c = (rows-asked _ _ _ _ _ _ _ _ (sym (rw c.good_plan-good.ensures at c.in_ok-rows_refusal.ensures))).good.sizes.few

pub draw_bands-requires : goal.draw_bands-requires
draw_bands-requires c =
    let g = rows-asked _ _ _ _ _ _ _ _ (sym (rw c.good_plan-good.ensures at c.in_ok-rows_refusal.ensures)) in
    let z = g.good.sizes in
    record { good = (z.some, z.wide, rw c.firsts-entries.ensures (all-wider _ _ _ _ z.tall g.good.entries)); room = (omega (arith, g.within, z.tall), omega (arith, g.room)) }

pub returns : goal.returns
returns c =
    let e = rw c.good_plan-good.ensures at c.in_ok-rows_refusal.ensures in
    record { value = e; buf_after = rows-drawn _ c.args.plan _ _ _ e refl (rw c.firsts-entries.ensures at c.draw_bands.ensures) }
