use Rattle.std.proofs.Common.{rules}
use Rattle.refusals.specs.Refusals.{width_refusal}
use Rattle.refusals.proofs.Codes.{passing, stopping}
use Rattle.refusals.proofs.width_refusal.Goals as goal

pub returns-in_err-canvas_refusal : goal.returns-in_err-canvas_refusal
unfolding width_refusal
returns-in_err-canvas_refusal c = stopping _ _ _ c.from_residual.ensures.1 c.in_err-canvas_refusal.ensures

pub returns : goal.returns
unfolding width_refusal
returns c = passing c.in_ok-canvas_refusal.ensures (search rules)
