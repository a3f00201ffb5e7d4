use Rattle.numbers.proofs.Refusals.{never}
use Rattle.std.proofs.Common.{refl, sym}
use native.Mathlib.Omega.{arith}
use Rattle.job.proofs.Reasons.{rectangle-kept, stretched-kept, margin-kept}
use Rattle.plan.specs.Steps.{planned}
use Rattle.plan.proofs.Answers.{rectangle-planned, rectangle-end, image-planned, image-end, step-out, step_in, step-flip}
use Rattle.plan.proofs.steps.step.Goals as goal

pub returns-in-Err : goal.returns-in-Err
returns-in-Err c = step-out _ _ _ c.in-Err.ensures (never _) c.leave_out.ensures

pub rectangle-e-requires : goal.rectangle-e-requires
rectangle-e-requires c =
    let f = rectangle-kept _ _ (sym c.in_default.ensures) c.in-Rectangle.is in omega (arith, f.on)

pub push-requires : goal.push-requires
push-requires c =
    let f = rectangle-kept _ _ (sym c.in_default.ensures) c.in-Rectangle.is in (c.requires.entry, rectangle-end _ _ _ _ _ _ _ c.rectangle-e.ensures (omega (arith, f.fits)))

pub image-e-requires : goal.image-e-requires
image-e-requires c =
    let f = (stretched-kept _ _ (sym c.in_default.ensures) c.in-Image.is).put in omega (arith, f.on, f.wide, f.fits)

pub push-requires-in-Image : goal.push-requires-in-Image
push-requires-in-Image c =
    let f = (stretched-kept _ _ (sym c.in_default.ensures) c.in-Image.is).put in (c.requires.entry, image-end _ _ _ _ _ _ _ _ _ _ c.image-e.ensures (omega (arith, f.fits)))

pub shift-requires : goal.shift-requires
shift-requires c =
    record { few = omega arith; tall = margin-kept _ _ (sym c.in_default.ensures) c.in-Margin.is; low = c.requires.low }

pub returns-in-Rectangle : goal.returns-in-Rectangle
returns-in-Rectangle c =
    step_in _ _ _ c.in_default.ensures refl c.in-Rectangle.is (rectangle-planned _ c.push.ensures _ _ _ _ _ _ c.rectangle-e.ensures)

pub returns-in-Image : goal.returns-in-Image
returns-in-Image c =
    step_in _ _ _ c.in_default.ensures refl c.in-Image.is (image-planned _ c.push-in-Image.ensures _ _ _ _ _ _ _ _ _ _ c.image-e.ensures)

pub returns-in-Margin : goal.returns-in-Margin
unfolding planned
returns-in-Margin c =
    step_in _ _ _ c.in_default.ensures refl c.in-Margin.is c.shift.ensures

pub returns-in-Flip : goal.returns-in-Flip
returns-in-Flip c = step-flip _ _ _ c.in_default.ensures refl c.in-Flip.is
