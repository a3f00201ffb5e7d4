-- Laws of numbers in decimal, and of writing them from the last digit on. Assumes nothing.
use Prim.Native.Nat.{ℕ, zero, suc, ◌+◌, ◌-◌, ◌*◌, ◌/◌, ◌%◌, ◌^◌, ◌≤◌, ◌<◌}
use mathlib.Core.Path.{◌≡◌, refl, ap, sym, ◌∙◌}
use mathlib.Core.Bool.{Bool, true, false}
use mathlib.Core.Logic.{◌⊎◌, inl, inr, ⊎_elim}
use mathlib.Core.List.{List, [], ◌∷◌, ◌++◌, append_assoc}
use native.Mathlib.Nat.{div-lt_self, pow-suc}
use native.Mathlib.Numerals.{add-one}
use native.Mathlib.Omega.{arith}
use borrow.Author.Tests.{lt-ltb, le-ltb, ltb-true, ltb-false}
use lib.ListN.{length, set, length-append}
use lib.Seq.{set_comm, sets, length-sets}
use lib.Dec.{ltb}
use Rattle.std.specs.Prelude.{max, if◌then◌else◌}
use Rattle.listing.specs.Listing.{digit, digits_by, digits}

-- ---- the digits of a number

tenth : (n : ℕ) → 10 ≤ n → n / 10 < n
tenth n h = div-lt_self (omega arith) (omega arith)

-- any k above n is enough
enough : (k m n : ℕ) → n < k → n < m → digits_by k n ≡ digits_by m n
unfolding digits_by
enough zero m n h g = absurd (omega arith)
enough (suc k) zero n h g = absurd (omega arith)
enough (suc k) (suc m) n h g = go (ltb n 10) refl (λ l. enough k m (n / 10) (omega (arith, tenth n l)) (omega (arith, tenth n l)))
  where
    go : (t : Bool) → ltb n 10 ≡ t → (10 ≤ n → digits_by k (n / 10) ≡ digits_by m (n / 10))
        → (if t then (digit n ∷ []) else digits_by k (n / 10) ++ (digit (n % 10) ∷ [])) ≡ (if t then (digit n ∷ []) else digits_by m (n / 10) ++ (digit (n % 10) ∷ []))
    go true e f = refl
    go false e f = ap (λ (w : List ℕ). w ++ (digit (n % 10) ∷ [])) (f (ltb-false n 10 e))

pub digits-one : (n : ℕ) → n < 10 → digits n ≡ digit n ∷ []
unfolding digits digits_by
digits-one n h = rw (lt-ltb n 10 h)

pub digits_more : (n : ℕ) → 10 ≤ n → digits n ≡ digits (n / 10) ++ (digit (n % 10) ∷ [])
unfolding digits digits_by
digits_more n h = rw (le-ltb n 10 h) (ap (λ (w : List ℕ). w ++ (digit (n % 10) ∷ [])) (enough n (suc (n / 10)) (n / 10) (tenth n h) (omega arith)))

one_more : (n : ℕ) → 10 ≤ n → length (digits n) ≡ length (digits (n / 10)) + 1
one_more n h = ap length (digits_more n h) ∙ length-append (digits (n / 10)) (digit (n % 10) ∷ [])

one-digit : (n : ℕ) → n < 10 → length (digits n) ≡ 1
one-digit n h = ap length (digits-one n h)

pub some-digits : (n : ℕ) → 1 ≤ length (digits n)
some-digits n = go (ltb n 10) refl
  where
    go : (t : Bool) → ltb n 10 ≡ t → 1 ≤ length (digits n)
    go true e = omega (arith, one-digit n (ltb-true n 10 e))
    go false e = omega (arith, one_more n (ltb-false n 10 e))

-- ---- counting them

pub record Counted (n count rest : ℕ) : Type 0 where
  pub all : count + length (digits rest) ≡ length (digits n) + 1
  pub small : rest ≤ n

pub counted_start : (n : ℕ) → Counted n 1 n
counted_start n = record { all = omega arith; small = omega arith }

module _ (n : ℕ) {count rest : ℕ} (c : Counted n count rest) where
  pub counted_next : 10 ≤ rest → Counted n (count + 1) (rest / 10)
  counted_next h = record { all = omega (arith, one_more rest h, c.all); small = omega (arith, tenth rest h, c.small) }

  pub counted-end : rest < 10 → count ≡ length (digits n)
  counted-end h = omega (arith, one-digit rest h, c.all)

-- by the power of ten below
powers : (k n : ℕ) {c rest : ℕ} → Counted n c rest → 10 ^ k ≤ rest → rest < 10 * 10 ^ k → c + k ≡ length (digits n)
powers zero n s h g = omega (arith, counted-end n s (omega (arith, g)))
powers (suc k) n {c} {rest} s h g =
    let p = pow-suc 10 k in
    let o = at-least-one k in
    omega (arith, powers k n (counted_next n s (omega arith)) (omega arith) (omega arith))
  where
    at-least-one : (j : ℕ) → 1 ≤ 10 ^ j
    at-least-one zero = omega arith
    at-least-one (suc j) = omega (arith, pow-suc 10 j, at-least-one j)

pub counted : (n k : ℕ) {m : ℕ} → m ≡ max n 1 → 10 ^ k ≤ m → m < 10 * 10 ^ k → k + 1 ≡ length (digits n)
counted zero k {m} e h g = omega (arith, powers k m (counted_start m) h g, one-digit m (omega arith), one-digit 0 (omega arith))
counted (suc n) k {m} e h g = omega (arith, powers k m (counted_start m) h g, ap (λ j. length (digits j)) e, ap (λ j. length (digits j)) (max-one n))
  where
    max-one : (n : ℕ) → max (suc n) 1 ≡ suc n
    max-one n = omega arith

-- ---- writing them, the last one first

-- a store before a run of stores
earlier : (l : List ℕ) (j : ℕ) (w : List ℕ) (i d : ℕ) → i < j → set (sets l j w) i d ≡ sets (set l i d) j w
earlier l j [] i d h = refl
earlier l j (a ∷ w) i d h = earlier (set l j a) (suc j) w i d (omega arith) ∙ ap (λ (m : List ℕ). sets m (suc j) w) (set_comm l j i a d (λ e. omega arith))

onward : (l : List ℕ) (w : List ℕ) (i d : ℕ) {m : List ℕ} → m ≡ sets l (i + 1) w → set m i d ≡ sets l i (d ∷ w)
onward l w i d {m} em = ap (λ (k : List ℕ). set k i d) em ∙ earlier l (i + 1) w i d (omega arith) ∙ ap (λ (j : ℕ). sets (set l i d) j w) (add-one i)

-- of the digits of n, which go to l from place `at` on, those of `rest` are still to be written; the last of them goes to place i
pub record Spelled (n at : ℕ) (l : List ℕ) (m : List ℕ) (i rest : ℕ) : Type 0 where
  pub tail : List ℕ
  pub place : i + 1 ≡ at + length (digits rest)
  pub all : digits n ≡ digits rest ++ tail
  pub sofar : m ≡ sets l (i + 1) tail
  pub small : rest ≤ n

module _ (n at : ℕ) (l : List ℕ) where
  module _ {m : List ℕ} {i rest : ℕ} (s : Spelled n at l m i rest) where
    pub spelled-next : 10 ≤ rest → Spelled n at l (set m i (digit (rest % 10))) (i - 1) (rest / 10)
    spelled-next h =
        let d = digit (rest % 10) in
        let p : i - 1 + 1 ≡ i = omega (arith, s.place, one_more rest h, some-digits (rest / 10)) in
        record {
          tail = d ∷ s.tail;
          place = omega (arith, p, s.place, one_more rest h);
          all = s.all ∙ ap (λ (w : List ℕ). w ++ s.tail) (digits_more rest h) ∙ append_assoc (digits (rest / 10)) (d ∷ []) s.tail;
          sofar = onward l s.tail i d s.sofar ∙ ap (λ (j : ℕ). sets l j (d ∷ s.tail)) (sym p);
          small = omega (arith, tenth rest h, s.small);
        }

    pub spelled_same : length m ≡ length l
    spelled_same = ap length s.sofar ∙ length-sets l (i + 1) s.tail

    pub spelled-end : rest < 10 → set m i (digit rest) ≡ sets l at (digits n)
    spelled-end h =
        let p : i ≡ at = omega (arith, s.place, one-digit rest h) in
        onward l s.tail i (digit rest) s.sofar ∙ ap (λ (j : ℕ). sets l j (digit rest ∷ s.tail)) p
        ∙ ap (sets l at) (sym (s.all ∙ ap (λ (w : List ℕ). w ++ s.tail) (digits-one rest h)))

-- the digits from place j on are written: they are all, or those of `rest` are still to be written
abbrev pub Spelling : (n at : ℕ) (l m : List ℕ) (j rest : ℕ) → Type 0
Spelling n at l m j rest = ((at < j) × Spelled n at l m (j - 1) rest) ⊎ ((j ≡ at) × (m ≡ sets l at (digits n)))

module _ (n at : ℕ) (l : List ℕ) where
  module _ {m : List ℕ} {j rest : ℕ} (s : Spelling n at l m j rest) where
    pub spelling-next : at < j → Spelling n at l (set m (j - 1) (digit (rest % 10))) (j - 1) (rest / 10)
    spelling-next a = ⊎_elim (λ p. by (ltb rest 10) refl p.1) (λ p. absurd (omega (arith, p.0))) s
      where
        by : (t : Bool) → ltb rest 10 ≡ t → Spelled n at l m (j - 1) rest → Spelling n at l (set m (j - 1) (digit (rest % 10))) (j - 1) (rest / 10)
        by true h p =
            let k = ltb-true rest 10 h in
            let d : rest % 10 ≡ rest = omega arith in
            inr (omega (arith, p.place, one-digit rest k), rw d (spelled-end n at l p k))
        by false h p =
            let k = ltb-false rest 10 h in inl (omega (arith, p.place, one_more rest k, some-digits (rest / 10)), spelled-next n at l p k)
