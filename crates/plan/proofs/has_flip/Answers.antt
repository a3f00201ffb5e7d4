use mathlib.Core.Path.{sym, ◌∙◌}
use native.Mathlib.Omega.{arith}
use Rattle.job.proofs.Found.{found}
use Rattle.job.proofs.Walk.{good, left-end}
use Rattle.plan.proofs.Going.{searched-start, searched-next, searched-found, searched-end}
use Rattle.plan.proofs.has_flip.Goals as goal

pub loop-kind-init : goal.loop-kind-init
loop-kind-init c = searched-start _ (good _ c.args.job.sound)

pub returns-then-kind-eq-FLIP : goal.returns-then-kind-eq-FLIP
returns-then-kind-eq-FLIP c =
    let l = c.loop-kind in searched-found _ l.at l.invariant (sym c.in-Record.is ∙ c.next_record.ensures) c.if-kind-eq-FLIP.true

pub loop-kind-smaller : goal.loop-kind-smaller
loop-kind-smaller c = omega (arith, found _ _ (sym c.in-Record.is ∙ c.next_record.ensures))

pub loop-kind-preserved : goal.loop-kind-preserved
loop-kind-preserved c =
    let l = c.loop-kind in searched-next _ l.at l.invariant (sym c.in-Record.is ∙ c.next_record.ensures) c.if-kind-eq-FLIP.false

pub returns : goal.returns
returns c =
    let l = c.loop-kind in searched-end _ l.at l.invariant (left-end _ _ l.invariant.left _ c.next_record.ensures c.in_default.not-Record)
