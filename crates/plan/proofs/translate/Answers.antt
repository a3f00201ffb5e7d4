use Rattle.std.proofs.Common.{refl, sym, ◌∙◌}
use Rattle.numbers.proofs.Refusals.{never}
use Rattle.plan.proofs.Answers.{refused-job, refused-flip, given-plan}
use Rattle.plan.proofs.translate.Goals as goal

pub returns-in-Err : goal.returns-in-Err
returns-in-Err c = c.refused.ensures ∙ refused-job _ c.in-Err.ensures.value (never _) refl

pub returns-then-has_flip : goal.returns-then-has_flip
returns-then-has_flip c =
    let e = c.in-Ok.ensures in
    c.refused-then-has_flip.ensures ∙ refused-flip _ e.value refl (sym c.if-has_flip.true ∙ rw e.same at c.has_flip.ensures) refl

pub plan_of-plan-requires : goal.plan_of-plan-requires
plan_of-plan-requires c = sym c.has_flip.ensures ∙ c.if-has_flip.false

pub returns : goal.returns
returns c =
    let e = c.in-Ok.ensures in
    given-plan _ e.value refl (sym c.if-has_flip.false ∙ rw e.same at c.has_flip.ensures) (rw e.same at c.plan_of-plan.ensures)
