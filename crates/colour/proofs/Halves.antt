-- A multiplied channel is the whole number nearest s * c * a / 65025. Away from the halves this follows from the error of the six operations. Next to them there are few products of three bytes, and each is computed. Assumes nothing.
use Rattle.std.proofs.Common.{◌≡◌, ℕ, zero, suc, ◌+◌, ◌-◌, ◌*◌, ◌/◌, ◌%◌, ◌<◌, ◌≤◌, Bool, true, false, ◌&&◌, eqb, ltb, sym, refl, ◌∙◌, subst, true≢false, not-suc-le-zero, mul-le-mul_right, mul_assoc, mul_comm, add-mul, mul-le-mul, le_antisymm, mul-le-mul_left, arith, ltb-false, ltb-true, eqb-true}
use native.Mathlib.Nat.{mul-mod_right, mul-div_cancel_left, div-eq_of_lt-le}
use lib.Ieee.{of_int, mul, div}
use Rattle.std.specs.Prelude.{if◌then◌else◌}
use Rattle.colour.specs.Channel.{nearest, product, round_away, multiply_byte}
use Rattle.colour.proofs.Accurate.{Close, close-product, scale}

-- ---- away from the halves

-- how far 2 * n is from the half above k, which is 130050 * k + 65025
abbrev gap : ℕ → ℕ → ℕ
gap k n = 2 * n - (130050 * k + 65025) + (130050 * k + 65025 - 2 * n)

-- n is so far from the half that the error does not reach over it
abbrev clear : ℕ → ℕ → Bool
clear k n = ltb (778 * n) (gap k n * 1073741824)

far : (r n k : ℕ) → n ≤ 16581375 → 65025 * k ≤ n → n < 65025 * k + 65025 → Close r n → 778 * n < gap k n * 1073741824 → r ≡ nearest n 65025
far r n k N l u h g = by (ltb (2 * n) (130050 * k + 65025)) refl
  where
    by : (t : Bool) → ltb (2 * n) (130050 * k + 65025) ≡ t → r ≡ nearest n 65025
    by true t =
        let w : 2 * n < 130050 * k + 65025 = ltb-true _ _ t in
        let e : nearest n 65025 ≡ k = omega arith in
        let x : r ≤ k = omega arith in
        let y : k ≤ r = omega arith in
        le_antisymm x y ∙ sym e
    by false t =
        let w : 130050 * k + 65025 ≤ 2 * n = ltb-false _ _ t in
        let e : nearest n 65025 ≡ k + 1 = omega arith in
        let x : r ≤ k + 1 = omega arith in
        let y : k + 1 ≤ r = omega arith in
        le_antisymm x y ∙ sym e

-- ---- next to the halves

-- f holds of every number below n
every : ℕ → (ℕ → Bool) → Bool
every zero f = true
every (suc n) f = f n && every n f

every-at : (n : ℕ) (f : ℕ → Bool) → every n f ≡ true → (i : ℕ) → i < n → f i ≡ true
unfolding every
every-at zero f e i h = absurd (not-suc-le-zero h)
every-at (suc n) f e i h = by (f n) refl e (ltb i n) refl (every-at n f)
  where
    by : (t : Bool) → f n ≡ t → (t && every n f) ≡ true → (u : Bool) → ltb i n ≡ u → (every n f ≡ true → (i : ℕ) → i < n → f i ≡ true) → f i ≡ true
    by false p q u z r = absurd (true≢false (sym q))
    by true p q true z r = r q i (ltb-true i n z)
    by true p q false z r = let w : i ≡ n = omega (arith, ltb-false i n z) in rw w p

-- f holds of every byte above k
bytes : ℕ → (ℕ → Bool) → Bool
bytes k f = every (255 - k) (λ i. f (255 - i))

bytes-at : (k : ℕ) (f : ℕ → Bool) → bytes k f ≡ true → (d : ℕ) → k < d → d ≤ 255 → f d ≡ true
unfolding bytes
bytes-at k f e d h u = let w : 255 - (255 - d) ≡ d = omega arith in subst (λ (z : ℕ). f z ≡ true) w (every-at (255 - k) _ e (255 - d) (omega arith))

-- c and m / c are the other two bytes where c divides m. As m / c is a byte, c is above m / 256
split : ℕ → ℕ → ℕ → Bool
split s m c = if eqb (m % c) 0 then eqb (multiply_byte s c (m / c)) (nearest (s * m) 65025) else true

-- twelve numbers at most are next to the half above k, and s divides one of those at most, s * m
half : ℕ → ℕ → Bool
half k s = let m = (65025 * k + 32518) / s in if clear k (s * m) then true else bytes (m / 256) (split s m)

computed : every 255 (λ k. bytes k (half k)) ≡ true
unfolding every bytes split half product round_away multiply_byte of_int mul div
computed = refl

-- ---- the theorem

-- what is not clear of the half above k
next-to : (n k : ℕ) → n ≤ 16581375 → 65025 * k ≤ n → clear k n ≡ false → (21 ≤ k) × (k < 255) × (65025 * k + 32507 ≤ n) × (n ≤ 65025 * k + 32518)
next-to n k N l t = let g : gap k n * 1073741824 ≤ 778 * n = ltb-false _ _ t in (omega arith, omega arith, omega arith, omega arith)

-- the other factor of such a number
quotient : (k s m : ℕ) → 12 ≤ s → s * m ≤ 65025 * k + 32518 → 65025 * k + 32507 ≤ s * m → (65025 * k + 32518) / s ≡ m
quotient k s m h l u = div-eq_of_lt-le s (omega (arith, mul_comm m s)) (omega (arith, mul_comm m s, add-mul m 1 s))

half_at : (s m k : ℕ) → s ≤ 255 → m ≤ 65025 → s * m ≤ 16581375 → 65025 * k ≤ s * m → clear k (s * m) ≡ false → bytes (m / 256) (split s m) ≡ true
unfolding half
half_at s m k S M N l t =
    let p = next-to (s * m) k N l t in
    let h : k < s = omega (arith, mul-le-mul_left s M) in
    let e = quotient k s m (omega arith) p.3 p.2 in
    let x : half k s ≡ true = bytes-at k (half k) (every-at 255 _ computed k p.1) s h S in
    rw (e, t) at x

split_at : (s c a : ℕ) → 0 < c → c ≤ 255 → a ≤ 255 → bytes (c * a / 256) (split s (c * a)) ≡ true → multiply_byte s c a ≡ nearest (s * (c * a)) 65025
unfolding split
split_at s c a c+ C A e =
    let x = bytes-at (c * a / 256) (split s (c * a)) e c (omega (arith, mul-le-mul_left c A)) C in
    eqb-true _ _ (rw (mul-mod_right c a, mul-div_cancel_left a) at x)

pub nearest-product : (s c a : ℕ) → s ≤ 255 → c ≤ 255 → a ≤ 255 → multiply_byte s c a ≡ nearest (s * c * a) 65025
unfolding multiply_byte
nearest-product s c a S C A = rw (mul_assoc s c a) (by (clear k n) refl)
  where
    n : ℕ
    n = s * (c * a)

    k : ℕ
    k = n / 65025

    N : n ≤ 16581375
    N = omega (arith, mul_assoc s c a, scale s c a S C A)

    by : (t : Bool) → clear k n ≡ t → multiply_byte s c a ≡ nearest n 65025
    by true t = far _ n k N (omega arith) (omega arith) (rw (mul_assoc s c a) at (close-product s c a S C A)) (ltb-true _ _ t)
    by false t =
        let p = next-to n k N (omega arith) t in
        let c+ : 0 < c = omega (arith, mul-le-mul_right (c * a) S, mul-le-mul_left c A) in
        split_at s c a c+ C A (half_at s (c * a) k S (mul-le-mul C A) N (omega arith) t)
