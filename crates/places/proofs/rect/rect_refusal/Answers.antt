use Rattle.refusals.proofs.Codes.{passing, stopping}
use Rattle.places.proofs.Equal.{equal-refusal}
use Rattle.places.proofs.rect.rect_refusal.Goals as goal

pub returns-in_err-canvas_refusal : goal.returns-in_err-canvas_refusal
returns-in_err-canvas_refusal c = rw (equal-refusal _ _ _ _ _ _ _) (stopping _ _ _ c.from_residual.ensures.1 c.in_err-canvas_refusal.ensures)

pub returns-in_err-side_refusal : goal.returns-in_err-side_refusal
returns-in_err-side_refusal c = rw (equal-refusal _ _ _ _ _ _ _) (passing c.in_ok-canvas_refusal.ensures (stopping _ _ _ c.from_residual-in_err-side_refusal.ensures.1 c.in_err-side_refusal.ensures))

pub returns-in_err-off_refusal : goal.returns-in_err-off_refusal
returns-in_err-off_refusal c = rw (equal-refusal _ _ _ _ _ _ _) (passing c.in_ok-canvas_refusal.ensures (passing c.in_ok-side_refusal.ensures (stopping _ _ _ c.from_residual-in_err-off_refusal.ensures.1 c.in_err-off_refusal.ensures)))

pub returns : goal.returns
returns c = rw (equal-refusal _ _ _ _ _ _ _) (passing c.in_ok-canvas_refusal.ensures (passing c.in_ok-side_refusal.ensures (passing c.in_ok-off_refusal.ensures c.result_refusal.ensures)))
