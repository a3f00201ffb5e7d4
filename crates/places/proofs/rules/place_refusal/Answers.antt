use Rattle.places.specs.Places.{place_refusal}
use Rattle.refusals.proofs.Codes.{passing, stopping}
use Rattle.places.proofs.rules.place_refusal.Goals as goal

pub returns-in_err-canvas_refusal : goal.returns-in_err-canvas_refusal
unfolding place_refusal
returns-in_err-canvas_refusal c = stopping _ _ _ c.from_residual.ensures.1 c.in_err-canvas_refusal.ensures

pub returns-in_err-length_refusal : goal.returns-in_err-length_refusal
unfolding place_refusal
returns-in_err-length_refusal c = passing c.in_ok-canvas_refusal.ensures (stopping _ _ _ c.from_residual-in_err-length_refusal.ensures.1 c.in_err-length_refusal.ensures)

pub returns-in_err-side_refusal : goal.returns-in_err-side_refusal
unfolding place_refusal
returns-in_err-side_refusal c = passing c.in_ok-canvas_refusal.ensures (passing c.in_ok-length_refusal.ensures (stopping _ _ _ c.from_residual-in_err-side_refusal.ensures.1 c.in_err-side_refusal.ensures))

pub returns-in_err-many_refusal : goal.returns-in_err-many_refusal
unfolding place_refusal
returns-in_err-many_refusal c = passing c.in_ok-canvas_refusal.ensures (passing c.in_ok-length_refusal.ensures (passing c.in_ok-side_refusal.ensures (stopping _ _ _ c.from_residual-in_err-many_refusal.ensures.1 c.in_err-many_refusal.ensures)))

pub returns-in_err-off_refusal : goal.returns-in_err-off_refusal
unfolding place_refusal
returns-in_err-off_refusal c = passing c.in_ok-canvas_refusal.ensures (passing c.in_ok-length_refusal.ensures (passing c.in_ok-side_refusal.ensures (passing c.in_ok-many_refusal.ensures (stopping _ _ _ c.from_residual-in_err-off_refusal.ensures.1 c.in_err-off_refusal.ensures))))

pub returns-in_err-short_refusal : goal.returns-in_err-short_refusal
unfolding place_refusal
returns-in_err-short_refusal c = passing c.in_ok-canvas_refusal.ensures (passing c.in_ok-length_refusal.ensures (passing c.in_ok-side_refusal.ensures (passing c.in_ok-many_refusal.ensures (passing c.in_ok-off_refusal.ensures (stopping _ _ _ c.from_residual-in_err-short_refusal.ensures.1 c.in_err-short_refusal.ensures)))))

pub returns : goal.returns
unfolding place_refusal
returns c = passing c.in_ok-canvas_refusal.ensures (passing c.in_ok-length_refusal.ensures (passing c.in_ok-side_refusal.ensures (passing c.in_ok-many_refusal.ensures (passing c.in_ok-off_refusal.ensures (passing c.in_ok-short_refusal.ensures c.result_refusal.ensures)))))
