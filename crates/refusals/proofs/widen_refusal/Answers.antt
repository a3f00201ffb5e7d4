use borrow.Author.Tests.{le-leb, lt-leb}
use Rattle.refusals.specs.Refusals.{widen_refusal}
use Rattle.refusals.proofs.Codes.{passing, stopping}
use Rattle.refusals.proofs.widen_refusal.Goals as goal

pub returns-in_err-width_refusal : goal.returns-in_err-width_refusal
unfolding widen_refusal
returns-in_err-width_refusal c = stopping _ _ _ c.from_residual.ensures.1 c.in_err-width_refusal.ensures

pub returns : goal.returns
unfolding widen_refusal
returns c = passing c.in_ok-width_refusal.ensures (rw (lt-leb _ _ c.if-width-w.false) c.room_refusal.ensures)

pub returns-then-width-w : goal.returns-then-width-w
unfolding widen_refusal
returns-then-width-w c = passing c.in_ok-width_refusal.ensures (rw (le-leb _ _ c.if-width-w.true))
