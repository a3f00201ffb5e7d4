-- `dots::term` meets its contract. Assumes nothing.
use native.Mathlib.Omega.{arith}
use native.Mathlib.Nat.{mul-le-mul_right}
use Prim.Native.Nat.{◌*◌, ◌≤◌}
use Rattle.dots.proofs.mix.term.Goals as goal
use Rattle.dots.proofs.mix.term.Goals.{Start}

low : (c : Start) → c.args.c * c.args.a ≤ 255 * c.args.a
low c = mul-le-mul_right c.args.a (omega arith)

pub overflow_mul-result : goal.overflow_mul-result
overflow_mul-result c = omega (arith, low (goal.at.overflow_mul-result c).Start)

pub overflow_add-result : goal.overflow_add-result
overflow_add-result c = omega (arith, low (goal.at.overflow_add-result c).Start)
