use Rattle.std.proofs.Common.{refl}
use Rattle.numbers.proofs.Refusals.{never}
use Rattle.runs.proofs.Answers.{job-refused, room-refused, room-enough, run-done, tried}
use Rattle.runs.proofs.run.Goals as goal

pub returns-in-Err : goal.returns-in-Err
returns-in-Err c =
    let r = job-refused _ _ c.in-Err.ensures.value (never _) c.refused.ensures in record { value = r.0; buf_after = r.1 }

pub returns-in-Err-room_refusal : goal.returns-in-Err-room_refusal
returns-in-Err-room_refusal c =
    let e = c.in-Ok.ensures in
    let t = tried _ _ (rw e.same at c.paper_width-width.ensures) (rw e.same at c.look_over-v.ensures) c.in-Err-room_refusal.ensures in
    let r = room-refused _ _ e.value refl t (never _) c.refused-in-Err-room_refusal.ensures in record { value = r.0; buf_after = r.1 }

pub draw_all-requires : goal.draw_all-requires
draw_all-requires c = room-enough _ _ (tried _ _ c.paper_width-width.ensures c.look_over-v.ensures c.in_default.ensures) refl

pub returns : goal.returns
returns c =
    let e = c.in-Ok.ensures in
    let w = rw e.same at c.paper_width-width.ensures in
    let v = rw e.same at c.look_over-v.ensures in
    let r = run-done _ _ e.value refl (tried _ _ w v c.in_default.ensures) refl w (rw e.same at c.paper_color.ensures) v (rw e.same at c.draw_all.ensures) in record { value = r.0; buf_after = r.1 }
