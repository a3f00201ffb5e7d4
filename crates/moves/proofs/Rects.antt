-- A rectangle of a picture that grows by a dot, by a row and by columns, to the whole picture. Assumes nothing.
use Rattle.std.proofs.Common.{◌≡◌, refl, sym, ◌∙◌, List, Bool, true, false, ◌||◌, ℕ, zero, suc, ◌+◌, ◌*◌, ◌/◌, ◌%◌, ◌≤◌, ◌<◌, div-add-mod', mod-lt, add-mul, mul-zero, mul-le-mul_right, div-lt_iff_lt-mul, arith, length, eqb, eqb-true, eq-eqb}
use mathlib.Core.Bool.{and-or_distrib_left, and-or_distrib_right}
use Rattle.colour.specs.declared.RGBA.{RGBA}
use Rattle.colour.proofs.Tests.{and_both}
use Rattle.dots.specs.Dots.{dot_at, set_dot, change, within}
use Rattle.dots.proofs.Laws.{change-none, change-step, change-more, change-where, within-yes, within-true, within-then}
use Rattle.dots.proofs.Blocks.{in_row}
use Rattle.moves.specs.Steps.{in_rect}

-- ---- no dot, one dot

rect-yes : (wide c c' r r' i : ℕ) → c ≤ i % wide → i % wide < c' → r ≤ i / wide → i / wide < r' → in_rect wide c c' r r' i ≡ true
unfolding in_rect
rect-yes wide c c' r r' i a b d e = rw (within-yes c c' (i % wide) a b, within-yes r r' (i / wide) d e)

rect-true : (wide c c' r r' i : ℕ) → in_rect wide c c' r r' i ≡ true → (c ≤ i % wide) × (i % wide < c') × (r ≤ i / wide) × (i / wide < r')
unfolding in_rect
rect-true wide c c' r r' i e =
    let t = and_both (within c c' (i % wide)) (within r r' (i / wide)) e in
    let a = within-true c c' (i % wide) t.0 in
    let b = within-true r r' (i / wide) t.1 in
    (a.0, a.1, b.0, b.1)

off : (t : Bool) → (t ≡ true → ⊥) → t ≡ false
off true h = absurd (h refl)
off false h = refl

-- two tests that hold together are the same
same_test : (t u : Bool) → (t ≡ true → u ≡ true) → (u ≡ true → t ≡ true) → t ≡ u
same_test true true f g = refl
same_test true false f g = sym (f refl)
same_test false true f g = g refl
same_test false false f g = refl

rect-one : (wide c r i : ℕ) → c < wide → in_rect wide c (c + 1) r (r + 1) i ≡ eqb i (r * wide + c)
rect-one wide c r i h =
    same_test _ _
    (λ e.
    let b = rect-true wide c (c + 1) r (r + 1) i e in
    let q : i / wide ≡ r = omega arith in
    let d : i / wide * wide + i % wide ≡ i = div-add-mod' i wide in
    let d' : r * wide + i % wide ≡ i = rw q at d in
    eq-eqb i (r * wide + c) (omega arith))
    (λ e.
    let ei : i ≡ r * wide + c = eqb-true i (r * wide + c) e in
    let b = in_row r wide i (omega arith) (omega arith) in
    rect-yes wide c (c + 1) r (r + 1) i (omega arith) (omega arith) (omega arith) (omega arith))

-- ---- more rows, more columns

rect-rows : (wide c c' r k r' i : ℕ) → r ≤ k → k ≤ r' → in_rect wide c c' r r' i ≡ (in_rect wide c c' r k i || in_rect wide c c' k r' i)
unfolding in_rect
rect-rows wide c c' r k r' i h j = rw (within-then r k r' (i / wide) h j) (and-or_distrib_left (within c c' (i % wide)) _ _)

rect-columns : (wide c k c' r r' i : ℕ) → c ≤ k → k ≤ c' → in_rect wide c c' r r' i ≡ (in_rect wide c k r r' i || in_rect wide k c' r r' i)
unfolding in_rect
rect-columns wide c k c' r r' i h j = rw (within-then c k c' (i % wide) h j) (and-or_distrib_right (within c k (i % wide)) _ _)

-- a product above a number has no factor 0
pub factor : (a b n : ℕ) → n < a * b → 0 < b
factor a zero n h = absurd (omega (arith, mul-zero a))
factor a (suc b) n h = omega arith

-- all columns of the first rows are all their dots
rect-whole : (wide r' i : ℕ) → in_rect wide 0 wide 0 r' i ≡ within 0 (r' * wide) i
rect-whole wide r' i =
    same_test _ _
    (λ e.
    let b = rect-true wide 0 wide 0 r' i e in
    let d = div-add-mod' i wide in
    let high = mul-le-mul_right {m = i / wide + 1} {n = r'} wide (omega arith) in
    within-yes 0 (r' * wide) i (omega arith) (omega (arith, add-mul (i / wide) 1 wide)))
    (λ e.
    let b = within-true 0 (r' * wide) i e in
    let pos : 0 < wide = factor r' wide i b.1 in
    rect-yes wide 0 wide 0 r' i (omega arith) (mod-lt i pos) (omega arith) ((div-lt_iff_lt-mul pos).1 b.1))

-- ---- a change of a rectangle's dots: b is the buffer at the loop's head, m the buffer after the turn

module _ (wide : ℕ) (g : ℕ → RGBA → RGBA) (l : List ℕ) where
  pub no-columns : (c r r' : ℕ) → l ≡ change (in_rect wide c c r r') g l
  no-columns c r r' =
      change-none _ g l (λ i. off _ (λ e. let b = rect-true wide c c r r' i e in omega arith))

  pub no_rows : (c c' r : ℕ) → l ≡ change (in_rect wide c c' r r) g l
  no_rows c c' r =
      change-none _ g l (λ i. off _ (λ e. let b = rect-true wide c c' r r i e in omega arith))

  -- the dot of row r and column k more
  pub dot-more : (r c k : ℕ) → k < wide → c ≤ k → (r * wide + k) * 4 + 4 ≤ length l
      → {b m : List ℕ} {d : RGBA} → b ≡ change (in_rect wide c k r (r + 1)) g l → d ≡ g (r * wide + k) (dot_at l (r * wide + k)) → m ≡ set_dot b (r * wide + k) d
      → m ≡ change (in_rect wide c (k + 1) r (r + 1)) g l
  dot-more r c k h u room eb ed em =
      em ∙ rw (ed, eb)
      (change-step _ _ g l (r * wide + k) room
      (λ i. rect-columns wide c k (k + 1) r (r + 1) i u (omega arith) ∙ rw (rect-one wide k r i h)))

  -- the dots of row r more
  pub row_more : (c c' r : ℕ) → {b m : List ℕ} → b ≡ change (in_rect wide c c' 0 r) g l → m ≡ change (in_rect wide c c' r (r + 1)) g b
      → m ≡ change (in_rect wide c c' 0 (r + 1)) g l
  row_more c c' r eb em =
      em ∙ rw eb
      (change-more _ _ _ g l (λ i. rect-rows wide c c' 0 r (r + 1) i (omega arith) (omega arith))
      (λ i e.
      let b = rect-true wide c c' r (r + 1) i e in
      off _ (λ f. let d = rect-true wide c c' 0 r i f in omega arith)))

  -- the columns from c to c' more
  pub columns-more : (c c' r' : ℕ) → c ≤ c' → {b m : List ℕ} → b ≡ change (in_rect wide 0 c 0 r') g l → m ≡ change (in_rect wide c c' 0 r') g b
      → m ≡ change (in_rect wide 0 c' 0 r') g l
  columns-more c c' r' u eb em =
      em ∙ rw eb
      (change-more _ _ _ g l (λ i. rect-columns wide 0 c c' 0 r' i (omega arith) u)
      (λ i e.
      let b = rect-true wide c c' 0 r' i e in
      off _ (λ f. let d = rect-true wide 0 c 0 r' i f in omega arith)))

  pub all-columns : (r' : ℕ) → change (in_rect wide 0 wide 0 r') g l ≡ change (within 0 (r' * wide)) g l
  all-columns r' = change-where _ _ g l (rect-whole wide r')
