use Rattle.std.proofs.Common.{rules}
use Rattle.refusals.specs.Refusals.{grow_refusal}
use Rattle.refusals.proofs.Codes.{first_then, passing, stopping}
use Rattle.refusals.proofs.grow_refusal.Goals as goal

pub returns-in_err-canvas_refusal : goal.returns-in_err-canvas_refusal
unfolding grow_refusal
returns-in_err-canvas_refusal c = rw first_then (stopping _ _ _ c.from_residual.ensures.1 c.in_err-canvas_refusal.ensures)

pub returns-in_err-tall_refusal : goal.returns-in_err-tall_refusal
unfolding grow_refusal
returns-in_err-tall_refusal c = rw first_then (passing c.in_ok-canvas_refusal.ensures (stopping _ _ _ c.from_residual-in_err-tall_refusal.ensures.1 c.in_err-tall_refusal.ensures))

pub returns : goal.returns
unfolding grow_refusal
returns c = rw first_then (passing c.in_ok-canvas_refusal.ensures (passing c.in_ok-tall_refusal.ensures (search rules)))
