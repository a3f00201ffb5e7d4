-- `round_away` of the product is within 65041 / 130050 of s * c * a / 65025, and at a = 255 it is the whole number nearest s * c / 255. Assumes nothing.
use Rattle.std.proofs.Common.{◌≡◌, ℕ, ◌+◌, ◌*◌, ◌/◌, ◌^◌, ◌<◌, ◌≤◌, true, false, T, sym, refl, ap, ◌∙◌, subst, true≢false, le_trans, le_of_eq, mul-le-mul_right, mul_assoc, mul_comm, add-mul, mul-le-mul, lt_of_mul-lt-mul_right, mul-lt-mul_of_pos_right, mul-pos, mul_right_comm, div-mul-le_self, le_of_mul-le-mul_right, mul_left_comm, arith, lit<, lit≤, lt→ltb, pow_pos}
use native.Mathlib.Nat.{lt-div-mul-add}
use lib.Ieee.{Float, nan, inf, fin, up, down}
use lib.Ieee.Fits.{down_pos}
use lib.Ieee.Exact.{HasValue}
use lib.Ieee.Nearest.{div_same}
use Rattle.colour.specs.Channel.{nearest, in_byte, round_away, product, multiply_byte, Multiplied}
use Rattle.colour.proofs.Product.{near-product}

-- ---- the rounded value by any fraction that x equals
cross : (x d a c : ℕ) → x * c ≡ a * d → (2 * x + d) * (2 * c) ≡ (2 * a + c) * (2 * d)
cross x d a c h =
    let e₁ : 2 * x * (2 * c) ≡ x * c * 4 = mul-mul-4 x c in
    let e₂ : 2 * a * (2 * d) ≡ a * d * 4 = mul-mul-4 a d in
    let e₃ : d * (2 * c) ≡ c * (2 * d) = mul_left_comm d 2 c ∙ ap (λ (z : ℕ). 2 * z) (mul_comm d c) ∙ mul_left_comm 2 c d in
    omega (arith, add-mul (2 * x) d (2 * c), add-mul (2 * a) c (2 * d))
  where
    mul-mul-4 : (y z : ℕ) → 2 * y * (2 * z) ≡ y * z * 4
    mul-mul-4 y z = omega (arith, mul_assoc 2 y (2 * z), mul_left_comm y 2 z)

pub round-away-value : (x : Float) (a c : ℕ) → 0 < c → HasValue x false a c → round_away x ≡ nearest a c
unfolding round_away
round-away-value nan a c C h = absurd h
round-away-value (inf s) a c C h = absurd h
round-away-value (fin s m e) a c C h = div_same (2 * (m * up e) + down e) (2 * down e) (2 * a + c) (2 * c) (mul-pos (lit< tt) (down_pos e)) (mul-pos (lit< tt) C) (cross (m * up e) (down e) a c h.1)

-- ---- the error of a value near n / 65025, rounded

-- r is within a half of a value within 389 parts in 2 ^ 30 of n / 65025. Both sides are times 130050 * 2 ^ 30
abbrev pub Close : ℕ → ℕ → Type 0
Close r n = (139640124211200 * r ≤ 2147484426 * n + 69820062105600) × (2147482880 * n ≤ 139640124211200 * r + 69820062105600)

module _ (g L n : ℕ) (L+ : 0 < L) (most : g * 16581375 * 1073741824 ≤ n * 255 * L * 1073742213) (least : n * 255 * L * 1073741440 ≤ g * 16581375 * 1073741824) where
  r : ℕ
  r = nearest g L

  low : r * L * 2 ≤ 2 * g + L
  unfolding r
  low = omega (arith, div-mul-le_self (2 * g + L) (2 * L), mul_left_comm (nearest g L) 2 L)

  high : 2 * g + L < r * L * 2 + L * 2
  unfolding r
  high = omega (arith, lt-div-mul-add {a = 2 * g + L} (mul-pos (lit< {m = 0} {n = 2} tt) L+), mul_left_comm (nearest g L) 2 L)

  most' : g * 65025 * 1073741824 ≤ n * L * 1073742213
  most' = omega (arith, most, mul_right_comm n 255 L)

  least' : n * L * 1073741440 ≤ g * 65025 * 1073741824
  least' = omega (arith, least, mul_right_comm n 255 L)

  -- an order between sums, of which every term has the factor L
  without : (p q k x y : ℕ) → p * (x * L) ≤ q * (y * L) + k * L → p * x ≤ q * y + k
  without p q k x y h =
      le_of_mul-le-mul_right
      (le_trans (le_of_eq (mul_assoc p x L)) (le_trans h (le_of_eq (ap (λ (z : ℕ). z + k * L) (sym (mul_assoc q y L)) ∙ sym (add-mul (q * y) k L))))) L+

  pub close : Close (nearest g L) n
  unfolding r
  close = (without 139640124211200 2147484426 69820062105600 r n (omega (arith, low, most')), without 2147482880 139640124211200 69820062105600 n r (omega (arith, high, least')))

-- ---- the theorems

pub scale : (s c a : ℕ) → s ≤ 255 → c ≤ 255 → a ≤ 255 → s * c * a ≤ 16581375
scale s c a S C A = mul-le-mul (mul-le-mul S C) A

pub close-product : (s c a : ℕ) → s ≤ 255 → c ≤ 255 → a ≤ 255 → Close (round_away (product s c a)) (s * c * a)
close-product s c a S C A =
    let x = near-product s c a S C A in
    subst (λ (r : ℕ). Close r (s * c * a)) (sym (round-away-value (product s c a) x.at (2 ^ 149) (pow_pos 149) x.value))
    (close x.at (2 ^ 149) (s * c * a) (pow_pos 149) x.most x.least)

bounds : (r n : ℕ) → n ≤ 16581375 → Close r n → (130050 * r ≤ 2 * n + 65041) × (2 * n ≤ 130050 * r + 65041)
bounds r n N h = (omega (arith, h.0), omega (arith, h.1))

pub accurate : (s c a : ℕ) → s ≤ 255 → c ≤ 255 → a ≤ 255
    → (130050 * round_away (product s c a) ≤ 2 * (s * c * a) + 65041) × (2 * (s * c * a) ≤ 130050 * round_away (product s c a) + 65041)
accurate s c a S C A = bounds (round_away (product s c a)) (s * c * a) (scale s c a S C A) (close-product s c a S C A)

pick : (r n : ℕ) → 130050 * r ≤ 2 * (n * 255) + 65041 → 2 * (n * 255) ≤ 130050 * r + 65041 → r ≡ (2 * n + 255) / 510
pick r n h k = omega arith

pub at-full-alpha : (s c : ℕ) → s ≤ 255 → c ≤ 255 → round_away (product s c 255) ≡ nearest (s * c) 255
at-full-alpha s c S C =
    let h = accurate s c 255 S C (lit≤ tt) in
    pick (round_away (product s c 255)) (s * c) h.0 h.1

-- the product is in the range that `round_to_byte` asks
pub in-byte : (x : Float) (g L : ℕ) → 0 < L → HasValue x false g L → 2 * g < 511 * L → T (in_byte x)
unfolding in_byte
in-byte nan g L P h k = absurd h
in-byte (inf s) g L P h k = absurd h
in-byte (fin true m e) g L P h k = absurd (true≢false h.0)
in-byte (fin false m e) g L P h k =
    lt→ltb (2 * (m * up e)) (511 * down e)
    (lt_of_mul-lt-mul_right L
    (let a : 2 * g * down e < 511 * L * down e = mul-lt-mul_of_pos_right k (down_pos e) in
    omega (arith, a, h.1, mul_assoc 2 g (down e), mul_assoc 511 L (down e), mul_assoc 2 (m * up e) L, mul_assoc 511 (down e) L, mul_comm L (down e))))

below : (g L n : ℕ) → 0 < L → n ≤ 16581375 → g * 16581375 * 1073741824 ≤ n * 255 * L * 1073742213 → 2 * g < 511 * L
below g L n P N h = omega (arith, h, mul_right_comm n 255 L, mul-le-mul_right L N)

pub product-in-byte : (s c a : ℕ) → s ≤ 255 → c ≤ 255 → a ≤ 255 → T (in_byte (product s c a))
product-in-byte s c a S C A =
    let x = near-product s c a S C A in
    in-byte (product s c a) x.at (2 ^ 149) (pow_pos 149) x.value (below x.at (2 ^ 149) (s * c * a) (pow_pos 149) (scale s c a S C A) x.most)

pub multiplied : (s c a r : ℕ) → s ≤ 255 → c ≤ 255 → a ≤ 255 → r ≡ multiply_byte s c a → Multiplied s c a r
unfolding multiply_byte
multiplied s c a r S C A e =
    subst (λ (q : ℕ). Multiplied s c a q) (sym e)
    record {
      value = refl;
      most = (accurate s c a S C A).0;
      least = (accurate s c a S C A).1;
      full = λ h. ap (λ (b : ℕ). round_away (product s c b)) h ∙ at-full-alpha s c S C;
    }
