-- `dots::mix::mix_byte` meets its contract. Assumes nothing.
use native.Mathlib.Omega.{arith}
use native.Mathlib.Nat.{mul-le-mul_right}
use Prim.Native.Nat.{◌*◌, ◌≤◌}
use Rattle.dots.proofs.mix.mix_byte.Goals as goal
use Rattle.dots.proofs.mix.mix_byte.Goals.{Start}

low : (c : Start) → c.args.s * c.args.m ≤ 255 * c.args.m
low c = mul-le-mul_right c.args.m (omega arith)

pub overflow_mul-t : goal.overflow_mul-t
overflow_mul-t c = omega (arith, low (goal.at.overflow_mul-t c).Start)

pub overflow_add-t : goal.overflow_add-t
overflow_add-t c = omega (arith, low (goal.at.overflow_add-t c).Start)

pub overflow_add-result : goal.overflow_add-result
overflow_add-result c = omega (arith, low (goal.at.overflow_add-result c).Start)

pub overflow_cast-result : goal.overflow_cast-result
overflow_cast-result c = omega (arith, low (goal.at.overflow_cast-result c).Start)
