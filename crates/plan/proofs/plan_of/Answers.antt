use mathlib.Core.Path.{sym, ◌∙◌}
use native.Mathlib.Omega.{arith}
use Rattle.job.proofs.Found.{found}
use Rattle.job.proofs.Walk.{good, left-end}
use Rattle.plan.proofs.Going.{going_start, going_end, going-sound, going-few, going-ready, going_next}
use Rattle.plan.proofs.Answers.{plan-with}
use Rattle.plan.proofs.plan_of.Goals as goal

pub loop-kind-init : goal.loop-kind-init
loop-kind-init c =
    going_start _ (good _ c.args.job.sound) c.requires (plan-with c.paper_width.ensures c.paper_color.ensures c.fresh-p.ensures)

pub command_at-c-requires : goal.command_at-c-requires
command_at-c-requires c =
    let l = c.loop-kind in
    let e = (sym c.in-Record.is ∙ c.next_record.ensures) in
    (omega (arith, found _ _ e), going-sound _ l.p l.k l.at l.invariant e)

pub step-p-requires : goal.step-p-requires
step-p-requires c =
    let l = c.loop-kind in going-ready _ l.p l.k l.at l.invariant (sym c.in-Record.is ∙ c.next_record.ensures)

pub overflow_add-k : goal.overflow_add-k
overflow_add-k c =
    let l = c.loop-kind in omega (arith, going-few _ l.p l.k l.at l.invariant (sym c.in-Record.is ∙ c.next_record.ensures))

pub loop-kind-smaller : goal.loop-kind-smaller
loop-kind-smaller c = omega (arith, found _ _ (sym c.in-Record.is ∙ c.next_record.ensures))

pub loop-kind-preserved : goal.loop-kind-preserved
loop-kind-preserved c =
    let l = c.loop-kind in going_next _ l.p l.k l.at l.invariant (sym c.in-Record.is ∙ c.next_record.ensures) c.command_at-c.ensures c.step-p.ensures

pub returns : goal.returns
returns c =
    let l = c.loop-kind in going_end _ l.p l.k l.at l.invariant (left-end _ _ l.invariant.looked.left _ c.next_record.ensures c.in_default.not-Record)
