use mathlib.Core.Path.{sym, ◌∙◌}
use native.Mathlib.Omega.{arith}
use Rattle.job.proofs.Found.{found}
use Rattle.job.proofs.Walk.{good, left-end}
use Rattle.runs.proofs.Going.{surveyed-start, surveyed-end, surveyed-sound, surveyed-few, surveyed-room, surveyed-next}
use Rattle.runs.proofs.survey.look_over.Goals as goal

pub loop-kind-init : goal.loop-kind-init
loop-kind-init c = surveyed-start _ (good _ c.args.job.sound) c.nothing-v.ensures

pub command_at-c-requires : goal.command_at-c-requires
command_at-c-requires c =
    let l = c.loop-kind in let e = (sym c.in-Record.is ∙ c.next_record.ensures) in (omega (arith, found _ _ e), surveyed-sound _ l.v l.k l.at l.invariant e)

pub look_at-v-requires : goal.look_at-v-requires
look_at-v-requires c =
    let l = c.loop-kind in surveyed-room _ l.v l.k l.at l.invariant (sym c.in-Record.is ∙ c.next_record.ensures)

pub overflow_add-k : goal.overflow_add-k
overflow_add-k c =
    let l = c.loop-kind in omega (arith, surveyed-few _ l.v l.k l.at l.invariant (sym c.in-Record.is ∙ c.next_record.ensures))

pub loop-kind-smaller : goal.loop-kind-smaller
loop-kind-smaller c = omega (arith, found _ _ (sym c.in-Record.is ∙ c.next_record.ensures))

pub loop-kind-preserved : goal.loop-kind-preserved
loop-kind-preserved c =
    let l = c.loop-kind in surveyed-next _ l.v l.k l.at l.invariant (sym c.in-Record.is ∙ c.next_record.ensures) c.paper_width-width.ensures c.command_at-c.ensures c.look_at-v.ensures

pub returns : goal.returns
returns c =
    let l = c.loop-kind in surveyed-end _ l.v l.k l.at l.invariant (left-end _ _ l.invariant.looked.left _ c.next_record.ensures c.in_default.not-Record)
