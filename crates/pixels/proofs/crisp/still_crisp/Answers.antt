-- `pixels::crisp::still_crisp` meets its contract. Assumes nothing.
use native.Mathlib.Omega.{arith}
use mathlib.Core.Logic.{inl, inr}
use Rattle.pixels.proofs.Crispness.{translucent-more, crisp-more}
use Rattle.pixels.proofs.crisp.still_crisp.Goals as goal

pub returns-in-1-to-254 : goal.returns-in-1-to-254
returns-in-1-to-254 c = translucent-more c.args.p c.args.yet (λ e. omega arith) (λ e. omega arith)

pub returns-in_default : goal.returns-in_default
returns-in_default c = crisp-more c.args.p c.args.yet (inl (omega arith))

pub returns-in_default-2 : goal.returns-in_default-2
returns-in_default-2 c = crisp-more c.args.p c.args.yet (inr (omega arith))
