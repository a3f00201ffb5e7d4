-- Digits, the numbers that they spell, and how large these are. Assumes nothing.
use mathlib.Core.Path.{◌≡◌, refl}
use mathlib.Core.Bool.{Bool, true, false}
use mathlib.Core.Logic.{◌⊎◌, inl, inr, ⊎_elim}
use mathlib.Core.List.{List, [], ◌∷◌, ◌++◌}
use Prim.Native.Nat.{ℕ, zero, suc, ◌+◌, ◌*◌, ◌-◌, ◌^◌, ◌≤◌, ◌<◌}
use native.Mathlib.Nat.{add-zero, zero-add, pow-suc, pow-le-pow_right}
use native.Mathlib.Numerals.{add-one}
use native.Mathlib.Omega.{arith}
use lib.ListN.{get_or}
use lib.Dec.{ltb}
use borrow.Author.Tests.{ltb-true, ltb-false, le-leb, lt-leb}
use Rattle.vectors.specs.Hex.{digit_of, number_at, byte_at, bytes_at}

pub digit-number : (c : ℕ) → 48 ≤ c → c < 58 → c - 48 ≡ digit_of c
unfolding digit_of
digit-number c h k = rw (le-leb 48 c h, le-leb c 57 (omega arith))

pub digit-letter : (c : ℕ) → 97 ≤ c → c < 103 → c - 97 + 10 ≡ digit_of c
unfolding digit_of
digit-letter c h k = rw (le-leb 48 c (omega arith), lt-leb c 57 (omega arith), le-leb 97 c h, le-leb c 102 (omega arith))

pub digit-under : (c : ℕ) → c < 48 → 0 ≡ digit_of c
unfolding digit_of
digit-under c h = rw (lt-leb 48 c h, lt-leb 97 c (omega arith))

pub digit-between : (c : ℕ) → 58 ≤ c → c < 97 → 0 ≡ digit_of c
unfolding digit_of
digit-between c h k = rw (le-leb 48 c (omega arith), lt-leb c 57 (omega arith), lt-leb 97 c k)

pub digit-above : (c : ℕ) → 103 ≤ c → 0 ≡ digit_of c
unfolding digit_of
digit-above c h = rw (le-leb 48 c (omega arith), lt-leb c 57 (omega arith), le-leb 97 c (omega arith), lt-leb c 102 (omega arith))

by-test : (a b : ℕ) (t : Bool) → ltb a b ≡ t → (a < b) ⊎ (b ≤ a)
by-test a b true e = inl (ltb-true a b e)
by-test a b false e = inr (ltb-false a b e)

below : (a b : ℕ) → (a < b) ⊎ (b ≤ a)
below a b = by-test a b (ltb a b) refl

pub digit-below : (c : ℕ) → digit_of c < 16
digit-below c =
    ⊎_elim (λ h. omega (arith, digit-under c h))
    (λ h.
    ⊎_elim (λ k. omega (arith, digit-number c h k))
    (λ k. ⊎_elim (λ m. omega (arith, digit-between c k m)) (λ m. ⊎_elim (λ n. omega (arith, digit-letter c m n)) (λ n. omega (arith, digit-above c n)) (below c 103)) (below c 97))
    (below c 58))
    (below c 48)

pub number-next : (s : List ℕ) (at n : ℕ) → number_at s at (n + 1) ≡ number_at s at n * 16 + digit_of (get_or s (at + n) 0)
unfolding number_at
number-next s at n = rw add-one

number-below : (s : List ℕ) (at n : ℕ) → number_at s at n < 16 ^ n
unfolding number_at
number-below s at zero = omega arith
number-below s at (suc n) = omega (arith, number-below s at n, digit-below (get_or s (at + n) 0), pow-suc 16 n)

-- of seven digits or fewer
pub number-room : (s : List ℕ) (at n : ℕ) → n < 8 → number_at s at n < 16 ^ 7
number-room s at n h = omega (arith, number-below s at n, pow-le-pow_right {n = 16} (omega arith) {i = n} {j = 7} (omega arith))

pub byte-digits : (s : List ℕ) (at : ℕ) → byte_at s at ≡ digit_of (get_or s at 0) * 16 + digit_of (get_or s (at + 1) 0)
unfolding byte_at number_at
byte-digits s at = simp (zero-add, add-zero)

pub bytes_next : (s : List ℕ) (at n : ℕ) → bytes_at s at (n + 1) ≡ bytes_at s at n ++ (byte_at s (at + n * 2) ∷ [])
unfolding bytes_at
bytes_next s at n = rw add-one
