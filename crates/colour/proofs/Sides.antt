-- An order and its reverse, so that the two bounds of an error are one argument. Assumes nothing.
use Rattle.std.proofs.Common.{ℕ, ◌*◌, ◌<◌, ◌≤◌, Bool, true, false, le_trans, mul-le-mul_right, mul-le-mul, le_of_mul-le-mul_right}

abbrev pub Side : Bool → ℕ → ℕ → Type 0
Side true a b = a ≤ b
Side false a b = b ≤ a

pub side-trans : (d : Bool) (a b c : ℕ) → Side d a b → Side d b c → Side d a c
side-trans true a b c h k = le_trans h k
side-trans false a b c h k = le_trans k h

pub side-times : (d : Bool) (a b k : ℕ) → Side d a b → Side d (a * k) (b * k)
side-times true a b k h = mul-le-mul_right k h
side-times false a b k h = mul-le-mul_right k h

pub side-product : (d : Bool) (a b a' b' : ℕ) → Side d a b → Side d a' b' → Side d (a * a') (b * b')
side-product true a b a' b' h k = mul-le-mul h k
side-product false a b a' b' h k = mul-le-mul h k

pub side-cancel : (d : Bool) (a b k : ℕ) → Side d (a * k) (b * k) → 0 < k → Side d a b
side-cancel true a b k h p = le_of_mul-le-mul_right h p
side-cancel false a b k h p = le_of_mul-le-mul_right h p
