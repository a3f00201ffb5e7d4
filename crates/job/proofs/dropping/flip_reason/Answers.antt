use Rattle.job.specs.Dropping.{flip_reason}
use Rattle.refusals.proofs.Codes.{passing, stopping}
use Rattle.job.proofs.dropping.flip_reason.Goals as goal

pub returns-in_err-empty_refusal : goal.returns-in_err-empty_refusal
unfolding flip_reason
returns-in_err-empty_refusal c = stopping _ _ _ c.from_residual.ensures.1 c.in_err-empty_refusal.ensures

pub returns-in_err-across_refusal : goal.returns-in_err-across_refusal
unfolding flip_reason
returns-in_err-across_refusal c = passing c.in_ok-empty_refusal.ensures (stopping _ _ _ c.from_residual-in_err-across_refusal.ensures.1 c.in_err-across_refusal.ensures)

pub returns : goal.returns
unfolding flip_reason
returns c = passing c.in_ok-empty_refusal.ensures (passing c.in_ok-across_refusal.ensures (rw (← c.reached.ensures) c.tall_refusal.ensures))
