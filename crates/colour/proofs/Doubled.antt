-- `v * 2.0` is exact, and its whole part, plus one, halved, is `round_away v`. Assumes nothing.
use Rattle.std.proofs.Common.{◌≡◌, ℕ, zero, suc, ◌+◌, ◌-◌, ◌*◌, ◌/◌, ◌%◌, ◌^◌, ◌<◌, ◌≤◌, min, Bool, true, false, not, ◌&&◌, T, eqb, ltb, leb, ℤ, pos, negsuc, sym, refl, ap, ◌∙◌, subst, true≢false, le_trans, le_of_eq, le_refl, lt_of_lt_of_le, lt_of_le_of_lt, le_of_lt, mul-le-mul_right, mul_assoc, mul_comm, div-lt_iff_lt-mul, lt_of_mul-lt-mul_right, mul-lt-mul_of_pos_right, mul-pos, mul-one, mul_right_comm, not-le_of_lt, le-mul_of_pos_right, le_of_mul-le-mul_right, arith, lit<, lit≤, eqb→eq, ltb→lt, lt→ltb, leb→le, pow-add}
use native.Mathlib.Nat.{le-suc, add-div_right, div-div-eq-div-mul}
use lib.Dec.{nleb→lt}
use lib.Pow.{pow-lt}
use lib.Ieee.{Float, nan, inf, fin, binary32, up, down, mul, lt, fits, to_unsigned}
use lib.Ieee.Fits.{and_l, and_r, up_pos, down_pos}
use lib.Ieee.Exact.{HasValue, round_exact}
use lib.Ieee.Nearest.{div_same}
use Rattle.colour.specs.Channel.{in_byte, round_away}
use Rattle.colour.proofs.Operations.{mul-value}

-- ---- a float that fits is a multiple of 2 ^ -149
shift : ℤ → ℕ
shift (pos k) = k + 150
shift (negsuc k) = 149 - k

deep : (k : ℕ) → 2 ^ suc k ≤ 2 ^ 149 → k ≤ 149
deep k h = go (leb k 149) (leb→le k 149) (nleb→lt k 149)
  where
    go : (b : Bool) → (T b → k ≤ 149) → (T (not b) → 149 < k) → k ≤ 149
    go true a b = a tt
    go false a b = absurd (not-le_of_lt (lt_of_le_of_lt h (pow-lt (le_trans (b tt) (le-suc k)))) (le_refl (2 ^ suc k)))

back : (k : ℕ) → k ≤ 149 → 149 - k + suc k ≡ 150
back k h = omega arith

in-units : (m : ℕ) (e : ℤ) → down e ≤ 2 ^ 149 → m * up e * 2 * 2 ^ 149 ≡ m * 2 ^ shift e * down e
unfolding shift
in-units m (pos k) h =
    mul_assoc (m * 2 ^ k) 2 (2 ^ 149) ∙ mul_assoc m (2 ^ k) (2 ^ 150) ∙ ap (λ (z : ℕ). m * z) (sym (pow-add 2 k 150)) ∙ sym (mul-one (m * 2 ^ (k + 150)))
in-units m (negsuc k) h =
    mul_assoc (m * 1) 2 (2 ^ 149) ∙ ap (λ (z : ℕ). z * 2 ^ 150) (mul-one m) ∙ ap (λ (z : ℕ). m * 2 ^ z) (sym (back k (deep k h))) ∙ ap (λ (z : ℕ). m * z) (pow-add 2 (149 - k) (suc k)) ∙ sym (mul_assoc m (2 ^ (149 - k)) (2 ^ suc k))

room : (a d q L : ℕ) → 0 < d → a * 2 * L ≡ q * d → 2 * a < 511 * d → q ≤ 511 * L
room a d q L D e h =
    le_of_mul-le-mul_right
    (le_trans (le_of_eq (sym e)) (le_trans (mul-le-mul_right L (le_of_lt (subst (λ (z : ℕ). z < 511 * d) (mul_comm 2 a) h))) (le_of_eq (mul_right_comm 511 d L)))) D

is-two : HasValue (fin false 1 (pos 1)) false 2 1
is-two = (refl, refl)

doubled : (m : ℕ) (e : ℤ) → m < 2 ^ 24 → down e ≤ 2 ^ 149 → 2 * (m * up e) < 511 * down e → HasValue (mul binary32 (fin false m e) (fin false 1 (pos 1))) false (m * up e * 2) (down e * 1)
doubled m e M D h =
    let u : m * up e * 2 * 2 ^ 149 ≡ m * 2 ^ shift e * (down e * 1) = in-units m e D ∙ ap (λ (z : ℕ). m * 2 ^ shift e * z) (sym (mul-one (down e))) in
    subst (λ (x : Float). HasValue x false (m * up e * 2) (down e * 1)) (sym (mul-value binary32 (fin false m e) (fin false 1 (pos 1)) (m * up e) (down e) 2 1 (down_pos e) (lit< tt) (refl, refl) is-two))
    (round_exact binary32 false (m * up e * 2) (down e * 1) m (shift e) (mul-pos (down_pos e) (lit< tt)) M
    (lt_of_le_of_lt (room (m * up e) (down e) (m * 2 ^ shift e) (2 ^ 149) (down_pos e) (in-units m e D) h) (lit< tt)) u)

-- ---- the whole part of a float that is g / c, below 511
smaller : (n d g c : ℕ) → 0 < c → 0 < d → n * c ≡ g * d → g < 511 * c → n < 511 * d
smaller n d g c C D e h =
    lt_of_mul-lt-mul_right c (lt_of_le_of_lt (le_of_eq e) (lt_of_lt_of_le (mul-lt-mul_of_pos_right h D) (le_of_eq (mul_right_comm 511 c d))))

above-neg : (d n : ℕ) → 0 < d → 0 < 1 * 1 * d + n
above-neg d n h = omega arith

below_top : (n d : ℕ) → n < 511 * d → n * 1 < 1 * 2 ^ 64 * d
below_top n d h = omega arith

capped : (q : ℕ) → q < 511 → min q (2 ^ 64 - 1) ≡ q
capped q h = omega arith

pub record Truncates (x : Float) (q : ℕ) : Type 0 where
  pub lowest : T (lt (fin true 1 (pos 0)) x)
  pub highest : T (lt x (fin false 1 (pos 64)))
  pub whole : to_unsigned 64 x ≡ q

truncates : (x : Float) (g c : ℕ) → 0 < c → g < 511 * c → HasValue x false g c → Truncates x (g / c)
unfolding lt to_unsigned
truncates nan g c C h v = absurd v
truncates (inf s) g c C h v = absurd v
truncates (fin true n d) g c C h v = absurd (true≢false v.0)
truncates (fin false n d) g c C h v =
    let s : n * up d < 511 * down d = smaller (n * up d) (down d) g c C (down_pos d) v.1 h in
    record {
      lowest = lt→ltb 0 (1 * 1 * down d + n * up d * 1) (above-neg (down d) (n * up d * 1) (down_pos d));
      highest = lt→ltb (n * up d * 1) (1 * 2 ^ 64 * down d) (below_top (n * up d) (down d) s);
      whole = capped (n * up d / down d) ((div-lt_iff_lt-mul (down_pos d)).1 s) ∙ div_same (n * up d) (down d) g c (down_pos d) C v.1;
    }

-- ---- what `round_to_byte` needs
pub record Rounds (v : Float) (x : Float) : Type 0 where
  pub lowest : T (lt (fin true 1 (pos 0)) x)
  pub highest : T (lt x (fin false 1 (pos 64)))
  pub small : to_unsigned 64 x < 511
  pub right : (to_unsigned 64 x + 1) / 2 ≡ round_away v

halved : (a d : ℕ) → 0 < d → (a * 2 / (d * 1) + 1) / 2 ≡ (2 * a + d) / (2 * d)
halved a d D =
    ap (λ (z : ℕ). (a * 2 / z + 1) / 2) (mul-one d)
    ∙ ap (λ (z : ℕ). z / 2) (sym (add-div_right (a * 2) D))
    ∙ div-div-eq-div-mul (a * 2 + d) d 2
    ∙ ap (λ (z : ℕ). (z + d) / (d * 2)) (mul_comm a 2)
    ∙ ap (λ (z : ℕ). (2 * a + d) / z) (mul_comm d 2)

bounds : (m : ℕ) (e : ℤ) → T (fits binary32 (fin false m e)) → T (ltb (2 * (m * up e)) (511 * down e)) → (m < 2 ^ 24) × (down e ≤ 2 ^ 149)
unfolding fits
bounds zero e t h = (lit< tt, le_trans (le-mul_of_pos_right (down e) (up_pos e)) (le_trans (le_of_eq (mul_comm (down e) (up e) ∙ eqb→eq (up e * down e) 1 t)) (lit≤ tt)))
bounds (suc m) e t h =
    let o = eqb (suc m % 2) 1 in
    let a = ltb (suc m) (2 ^ 24) in
    let b = leb (down e) (2 ^ 149) in
    let u : T (o && a && b) = and_l (o && a && b) (ltb (suc m * up e) (2 ^ 128 * down e)) t in
    (ltb→lt (suc m) (2 ^ 24) (and_r o a (and_l (o && a) b u)), leb→le (down e) (2 ^ 149) (and_r (o && a) b u))

pub rounds : (v : Float) → T (fits binary32 v) → T (in_byte v) → Rounds v (mul binary32 v (fin false 1 (pos 1)))
unfolding in_byte round_away
rounds nan t h = absurd h
rounds (inf s) t h = absurd h
rounds (fin true m e) t h = absurd h
rounds (fin false m e) t h =
    let b = bounds m e t h in
    let k : 2 * (m * up e) < 511 * down e = ltb→lt (2 * (m * up e)) (511 * down e) h in
    let g : m * up e * 2 < 511 * (down e * 1) = omega arith in
    let x = truncates (mul binary32 (fin false m e) (fin false 1 (pos 1))) (m * up e * 2) (down e * 1) (mul-pos (down_pos e) (lit< tt)) g (doubled m e b.0 b.1 k) in
    record {
      lowest = x.lowest;
      highest = x.highest;
      small = subst (λ (q : ℕ). q < 511) (sym x.whole) ((div-lt_iff_lt-mul (mul-pos (down_pos e) (lit< {m = 0} {n = 1} tt))).1 g);
      right = ap (λ (q : ℕ). (q + 1) / 2) x.whole ∙ halved (m * up e) (down e) (down_pos e);
    }
