use mathlib.Core.Path.{refl}
use Rattle.numbers.proofs.Refusals.{never}
use mathlib.Core.List.{[]}
use native.Mathlib.Omega.{arith}
use Rattle.numbers.proofs.Sides.{area}
use Rattle.job.proofs.Reasons.{rectangle-kept, stretched-kept, mirrored-kept}
use Rattle.runs.proofs.Answers.{step-out, step_in, rectangle-obeyed, image-obeyed, margin-obeyed, flip-obeyed, kept_of, rectangle-asks, image-asks, margin-room, flip-room, margin-asks, margin-fits, flip_asks}
use Rattle.runs.proofs.draw.obey.Goals as goal

pub returns-in-Err : goal.returns-in-Err
returns-in-Err c =
    let r = step-out _ _ _ _ _ _ c.in-Err.ensures (never _) in record { value = r.0; buf_after = r.1 }

pub rectangle-e-requires : goal.rectangle-e-requires
rectangle-e-requires c =
    let k = rectangle-kept _ _ (kept_of [] _ c.args.paper _ [] c.args.c c.in_default.ensures refl) c.in-Rectangle.is in omega (arith, k.on)

pub place-requires : goal.place-requires
place-requires c =
    rectangle-asks _ _ c.args.paper _ [] c.args.c c.in_default.ensures refl c.requires.0 c.in-Rectangle.is c.requires.2 c.rectangle-e.ensures

pub image-e-requires : goal.image-e-requires
image-e-requires c =
    let k = (stretched-kept _ _ (kept_of [] _ c.args.paper _ [] c.args.c c.in_default.ensures refl) c.in-Image.is).put in omega (arith, k.on, k.wide, k.high)

pub place-requires-in-Image : goal.place-requires-in-Image
place-requires-in-Image c =
    image-asks _ _ c.args.paper _ [] c.args.c c.in_default.ensures refl c.requires.0 c.in-Image.is c.requires.2 (omega arith) (omega arith) c.image-e.ensures

pub overflow_mul-wide : goal.overflow_mul-wide
overflow_mul-wide c = omega (arith, area {a = c.args.width} {b = c.args.height} c.requires.0.wide c.requires.1)

pub overflow_mul-wide-in-Margin : goal.overflow_mul-wide-in-Margin
overflow_mul-wide-in-Margin c =
    let r = margin-room [] _ c.args.paper _ [] c.args.c c.in_default.ensures refl c.requires.0 c.in-Margin.is in omega (arith, margin-fits _ _ _ r)

pub move_down-requires : goal.move_down-requires
move_down-requires c =
    margin-asks _ _ _ (margin-room [] _ c.args.paper _ [] c.args.c c.in_default.ensures refl c.requires.0 c.in-Margin.is)

pub overflow_add-result : goal.overflow_add-result
overflow_add-result c =
    let r = margin-room [] _ c.args.paper _ [] c.args.c c.in_default.ensures refl c.requires.0 c.in-Margin.is in omega (arith, r.tall)

pub overflow_add-y : goal.overflow_add-y
overflow_add-y c =
    let r = flip-room [] _ c.args.paper _ [] c.args.c c.in_default.ensures refl c.requires.0 c.in-Flip.is in omega (arith, r.tall)

pub grow-tall-requires : goal.grow-tall-requires
grow-tall-requires c =
    flip-room [] _ c.args.paper _ [] c.args.c c.in_default.ensures refl c.requires.0 c.in-Flip.is

pub flip_area-requires : goal.flip_area-requires
flip_area-requires c =
    flip_asks _ _ _ _ _ _ _ _ (flip-room [] _ c.args.paper _ [] c.args.c c.in_default.ensures refl c.requires.0 c.in-Flip.is) (mirrored-kept _ _ (kept_of [] _ c.args.paper _ [] c.args.c c.in_default.ensures refl) c.in-Flip.is).on c.grow-tall.ensures.buf_after

pub returns-in-Rectangle : goal.returns-in-Rectangle
returns-in-Rectangle c =
    let r = step_in _ _ _ _ _ _ c.in_default.ensures refl c.in-Rectangle.is (rectangle-obeyed _ _ _ _ _ c.place.ensures.value c.place.ensures.buf_after _ _ _ _ _ _ c.rectangle-e.ensures) in record { value = r.0; buf_after = r.1 }

pub returns-in-Image : goal.returns-in-Image
returns-in-Image c =
    let r = step_in _ _ _ _ _ _ c.in_default.ensures refl c.in-Image.is (image-obeyed _ _ _ _ _ c.place-in-Image.ensures.value c.place-in-Image.ensures.buf_after _ _ _ _ _ _ _ _ _ _ c.image-e.ensures) in record { value = r.0; buf_after = r.1 }

pub returns-in-Margin : goal.returns-in-Margin
returns-in-Margin c =
    let r = step_in _ _ _ _ _ _ c.in_default.ensures refl c.in-Margin.is (margin-obeyed _ _ _ _ _ _ refl c.move_down.ensures) in record { value = r.0; buf_after = r.1 }

pub returns-in-Flip : goal.returns-in-Flip
returns-in-Flip c =
    let r = step_in _ _ _ _ _ _ c.in_default.ensures refl c.in-Flip.is (flip-obeyed _ _ _ _ _ _ _ _ _ c.grow-tall.ensures.value c.grow-tall.ensures.buf_after c.flip_area.ensures) in record { value = r.0; buf_after = r.1 }
