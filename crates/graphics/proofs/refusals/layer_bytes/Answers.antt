-- `graphics::refusals::layer_bytes` meets its contract. Assumes nothing.
use native.Mathlib.Omega.{arith}
use Prim.Native.Nat.{◌/◌}
use Rattle.numbers.proofs.Sides.{area}
use Rattle.graphics.specs.Layers.{layer_bytes}
use Rattle.graphics.proofs.refusals.layer_bytes.Goals as goal

pub overflow_mul-result : goal.overflow_mul-result
overflow_mul-result c = omega (arith, area {a = c.args.w / 8} (omega arith) c.requires.1)

pub returns-then-bits : goal.returns-then-bits
unfolding layer_bytes
returns-then-bits c = rw c.if-bits.true

pub overflow_mul-result-2 : goal.overflow_mul-result-2
overflow_mul-result-2 c = omega (arith, area c.requires.0 c.requires.1)

pub returns : goal.returns
unfolding layer_bytes
returns c = rw c.if-bits.false
