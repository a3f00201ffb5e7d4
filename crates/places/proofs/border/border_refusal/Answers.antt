use Rattle.places.specs.Places.{border_refusal}
use Rattle.refusals.proofs.Codes.{passing, stopping}
use Rattle.places.proofs.border.border_refusal.Goals as goal

pub returns-in_err-side_refusal : goal.returns-in_err-side_refusal
unfolding border_refusal
returns-in_err-side_refusal c = stopping _ _ _ c.from_residual.ensures.1 c.in_err-side_refusal.ensures

pub returns-in_err-empty_refusal : goal.returns-in_err-empty_refusal
unfolding border_refusal
returns-in_err-empty_refusal c = passing c.in_ok-side_refusal.ensures (stopping _ _ _ c.from_residual-in_err-empty_refusal.ensures.1 c.in_err-empty_refusal.ensures)

pub returns : goal.returns
unfolding border_refusal
returns c = passing c.in_ok-side_refusal.ensures (passing c.in_ok-empty_refusal.ensures c.room_refusal.ensures)
