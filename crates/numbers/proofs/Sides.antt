-- Sides within the limit. Assumes nothing.
use Prim.Native.Nat.{ℕ, ◌*◌, ◌≤◌}
use native.Mathlib.Nat.{mul-le-mul}
use Rattle.numbers.specs.Numbers.{limit}

-- a product of two sides
pub area : {a b : ℕ} → a ≤ limit → b ≤ limit → a * b ≤ 268435456
area ha hb = mul-le-mul ha hb
