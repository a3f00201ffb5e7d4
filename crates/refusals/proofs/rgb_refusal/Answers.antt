use Rattle.refusals.specs.Refusals.{rgb_refusal}
use Rattle.refusals.proofs.Codes.{passing, stopping}
use Rattle.refusals.proofs.rgb_refusal.Goals as goal

pub returns-in_err-canvas_refusal : goal.returns-in_err-canvas_refusal
unfolding rgb_refusal
returns-in_err-canvas_refusal c = stopping _ _ _ c.from_residual.ensures.1 c.in_err-canvas_refusal.ensures

pub returns : goal.returns
unfolding rgb_refusal
returns c = passing c.in_ok-canvas_refusal.ensures c.rgb_room_refusal.ensures
