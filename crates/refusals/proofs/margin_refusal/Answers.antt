use Rattle.std.proofs.Common.{sym, arith}
use Rattle.refusals.specs.Refusals.{margin_refusal}
use Rattle.refusals.proofs.Codes.{first_then, passing, stopping, tall-done}
use Rattle.refusals.proofs.margin_refusal.Goals as goal

pub returns-in_err-canvas_refusal : goal.returns-in_err-canvas_refusal
unfolding margin_refusal
returns-in_err-canvas_refusal c = rw first_then (stopping _ _ _ c.from_residual.ensures.1 c.in_err-canvas_refusal.ensures)

pub returns-in_err-tall_refusal : goal.returns-in_err-tall_refusal
unfolding margin_refusal
returns-in_err-tall_refusal c = rw first_then (passing c.in_ok-canvas_refusal.ensures (stopping _ _ _ c.from_residual-in_err-tall_refusal.ensures.1 c.in_err-tall_refusal.ensures))

pub returns : goal.returns
unfolding margin_refusal
returns c = rw first_then (passing c.in_ok-canvas_refusal.ensures (passing c.in_ok-tall_refusal.ensures c.room_refusal.ensures))

pub overflow_add-h-2 : goal.overflow_add-h-2
overflow_add-h-2 c = omega (arith, tall-done _ (sym c.in_ok-tall_refusal.ensures))
