use Rattle.refusals.specs.Refusals.{out_refusal}
use Rattle.refusals.proofs.Codes.{passing, stopping}
use Rattle.refusals.proofs.out_refusal.Goals as goal

pub returns-in_err-canvas_refusal : goal.returns-in_err-canvas_refusal
unfolding out_refusal
returns-in_err-canvas_refusal c = stopping _ _ _ c.from_residual.ensures.1 c.in_err-canvas_refusal.ensures

pub returns : goal.returns
unfolding out_refusal
returns c = passing c.in_ok-canvas_refusal.ensures c.room_refusal.ensures
