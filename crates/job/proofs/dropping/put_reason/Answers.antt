use Rattle.job.specs.Dropping.{put_reason}
use Rattle.refusals.proofs.Codes.{passing, stopping}
use Rattle.job.proofs.dropping.put_reason.Goals as goal

pub returns-in_err-side_refusal : goal.returns-in_err-side_refusal
unfolding put_reason
returns-in_err-side_refusal c = stopping _ _ _ c.from_residual.ensures.1 c.in_err-side_refusal.ensures

pub returns-in_err-off_refusal : goal.returns-in_err-off_refusal
unfolding put_reason
returns-in_err-off_refusal c = passing c.in_ok-side_refusal.ensures (stopping _ _ _ c.from_residual-in_err-off_refusal.ensures.1 c.in_err-off_refusal.ensures)

pub returns : goal.returns
unfolding put_reason
returns c = passing c.in_ok-side_refusal.ensures (passing c.in_ok-off_refusal.ensures (rw (← c.reached.ensures) c.tall_refusal.ensures))
