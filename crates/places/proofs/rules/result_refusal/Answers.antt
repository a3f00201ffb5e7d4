use Rattle.std.proofs.Common.{refl, arith}
use borrow.Author.Tests.{lt-ltb, le-ltb}
use Rattle.refusals.specs.Refusals.{tall_refusal}
use Rattle.refusals.proofs.Codes.{first_some, passing}
use Rattle.places.specs.Places.{result_refusal}
use Rattle.places.proofs.rules.result_refusal.Goals as goal

pub returns-then-rows : goal.returns-then-rows
unfolding result_refusal tall_refusal
returns-then-rows c = rw (lt-ltb _ _ c.if-rows.true) (first_some _ _ (λ e. omega arith))

pub returns : goal.returns
unfolding result_refusal tall_refusal
returns c = rw (le-ltb _ _ c.if-rows.false) (passing refl c.room_refusal.ensures)
