-- `dots::multiply::scale_byte` meets its contract. Assumes nothing.
use native.Mathlib.Omega.{arith}
use native.Mathlib.Nat.{mul-le-mul}
use Prim.Native.Nat.{◌*◌, ◌≤◌}
use Rattle.dots.proofs.multiply.scale_byte.Goals as goal
use Rattle.dots.proofs.multiply.scale_byte.Goals.{Start}

product : (c : Start) → c.args.s * c.args.f ≤ 255 * 65025
product c = mul-le-mul {n₂ = 255} (omega arith) c.requires

pub overflow_mul-result : goal.overflow_mul-result
overflow_mul-result c = omega (arith, product (goal.at.overflow_mul-result c).Start)

pub overflow_add-result : goal.overflow_add-result
overflow_add-result c = omega (arith, product (goal.at.overflow_add-result c).Start)

pub overflow_cast-result-2 : goal.overflow_cast-result-2
overflow_cast-result-2 c = omega (arith, product (goal.at.overflow_cast-result-2 c).Start)
