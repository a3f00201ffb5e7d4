use Rattle.places.specs.Places.{flip_refusal}
use Rattle.refusals.proofs.Codes.{passing, stopping}
use Rattle.places.proofs.flip.flip_refusal.Goals as goal

pub returns-in_err-canvas_refusal : goal.returns-in_err-canvas_refusal
unfolding flip_refusal
returns-in_err-canvas_refusal c = stopping _ _ _ c.from_residual.ensures.1 c.in_err-canvas_refusal.ensures

pub returns-in_err-empty_refusal : goal.returns-in_err-empty_refusal
unfolding flip_refusal
returns-in_err-empty_refusal c = passing c.in_ok-canvas_refusal.ensures (stopping _ _ _ c.from_residual-in_err-empty_refusal.ensures.1 c.in_err-empty_refusal.ensures)

pub returns-in_err-across_refusal : goal.returns-in_err-across_refusal
unfolding flip_refusal
returns-in_err-across_refusal c = passing c.in_ok-canvas_refusal.ensures (passing c.in_ok-empty_refusal.ensures (stopping _ _ _ c.from_residual-in_err-across_refusal.ensures.1 c.in_err-across_refusal.ensures))

pub returns : goal.returns
unfolding flip_refusal
returns c = passing c.in_ok-canvas_refusal.ensures (passing c.in_ok-empty_refusal.ensures (passing c.in_ok-across_refusal.ensures (rw (← c.flip_tall.ensures) c.result_refusal.ensures)))
