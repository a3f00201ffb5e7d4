-- Rows in their buffer, entry by entry, and a row's ink. Assumes nothing.
use Prim.Native.Nat.{ℕ, zero, suc, ◌+◌, ◌-◌, ◌*◌, ◌/◌, ◌%◌, ◌≤◌, ◌<◌}
use mathlib.Core.Path.{◌≡◌, refl, ap, sym, ◌∙◌}
use mathlib.Core.List.{List, [], ◌∷◌, ◌++◌}
use mathlib.Core.Bool.{Bool, true, false}
use native.Mathlib.Nat.{add-zero, zero-mul, one-mul, add-mul, mul-le-mul_right, mod-lt, mod-eq_of_lt, div-eq_of_lt, div-lt_iff_lt-mul, le-div_iff_mul-le, sub-zero}
use native.Mathlib.Omega.{arith}
use lib.ListN.{length, get_or}
use Rattle.std.specs.Prelude.{if◌then◌else◌}
use Rattle.colour.specs.declared.RGBA.{RGBA}
use Rattle.dots.specs.Dots.{dot_at, change, within}
use Rattle.dots.proofs.Laws.{length-change, change-idle, change-picked, change-where, change-by, change-over, Place, before, inside, past, place, within-yes, within_low, within-high, within-true, run_none, run_more}
use Rattle.areas.specs.Areas.{in_area, area_on}
use Rattle.areas.proofs.Laws.{at-column, in-area, not-in-area}
use Rattle.entries.specs.declared.Entry.{Entry}
use Rattle.entries.specs.Entries.{entry_on}
use Rattle.entries.specs.Steps.{entry_rows}
use Rattle.plan.specs.Plan.{no_entry}
use Rattle.rows.specs.Rows.{entries_on, row_on, rows_on, firsts, has_ink, ink}
use Rattle.rows.specs.Steps.{band_on}

-- ---- one entry more

entries-more : (s : List ℕ) (es : List Entry) (e : Entry) (i j : ℕ) (d : RGBA) → entries_on s (es ++ (e ∷ [])) i j d ≡ entry_on s e i j (entries_on s es i j d)
unfolding entries_on
entries-more s [] e i j d = refl
entries-more s (f ∷ es) e i j d = entries-more s es e i j (entry_on s f i j d)

entries_next : (s : List ℕ) (es : List Entry) (n i j : ℕ) (d : RGBA) → entries_on s (firsts (n + 1) es) i j d ≡ entry_on s (get_or es n no_entry) i j (entries_on s (firsts n es) i j d)
unfolding firsts
entries_next s es n i j d = let u : n + 1 ≡ suc n = omega arith in rw u (entries-more s (firsts n es) (get_or es n no_entry) i j d)

-- ---- n rows from row `first` on, from row `top` of a buffer on

-- by the dots' places, or by their columns and rows
in_rows : (W top n k : ℕ) → 0 < W → within (top * W) ((top + n) * W) k ≡ in_area 0 top W n (k % W) (k / W)
in_rows W top n k w = by (place (top * W) ((top + n) * W) k)
  where
    by : Place (top * W) ((top + n) * W) k → within (top * W) ((top + n) * W) k ≡ in_area 0 top W n (k % W) (k / W)
    by (before u) =
        within_low (top * W) ((top + n) * W) k u
        ∙ sym (not-in-area 0 top W n (k % W) (k / W) (λ a b c d. omega (arith, (le-div_iff_mul-le {x = top} {y = k} w).0 c)))
    by (inside u v) =
        within-yes (top * W) ((top + n) * W) k u v
        ∙ sym (in-area 0 top W n (k % W) (k / W) (omega arith) (omega (arith, mod-lt k w)) ((le-div_iff_mul-le w).1 u) ((div-lt_iff_lt-mul w).1 v))
    by (past u v) =
        within-high (top * W) ((top + n) * W) k v
        ∙ sym (not-in-area 0 top W n (k % W) (k / W) (λ a b c d. omega (arith, (div-lt_iff_lt-mul {x = k} {y = top + n} w).0 d)))

module _ (s : List ℕ) (W first top n : ℕ) where
  abbrev rows : ℕ → Bool
  rows = within (top * W) ((top + n) * W)

  -- an entry on them, and over what they held
  on-rows : (e : Entry) (l : List ℕ) → 0 < W → entry_rows s e W top first n l ≡ change rows (λ k d. entry_on s e (k % W) (first + (k / W - top)) d) l
  unfolding entry_rows area_on
  on-rows e l w = change-where _ rows _ l (λ k. sym (in_rows W top n k w)) ∙ change-by rows _ _ l (λ k t. rw sub-zero)

  over-rows : (e : Entry) (g : ℕ → RGBA → RGBA) (l : List ℕ) → 0 < W → entry_rows s e W top first n (change rows g l) ≡ change rows (λ k d. entry_on s e (k % W) (first + (k / W - top)) (g k d)) l
  over-rows e g l w = on-rows e (change rows g l) w ∙ change-over rows g (λ k d. entry_on s e (k % W) (first + (k / W - top)) d) l

  -- the loop: i of `count` entries are applied in b to the dots of l
  pub record Applied (count : ℕ) (es : List Entry) (l : List ℕ) (i : ℕ) (b : List ℕ) : Type 0 where
    pub upto : i ≤ count
    pub same : length b ≡ length l
    pub sofar : b ≡ change rows (λ k d. entries_on s (firsts i es) (k % W) (first + (k / W - top)) d) l

  module _ (count : ℕ) (es : List Entry) (l : List ℕ) where
    pub applied-start : Applied count es l 0 l
    unfolding entries_on firsts
    applied-start = record { upto = omega arith; same = refl; sofar = change-idle rows _ l (λ k t. refl) }

    pub applied-next : {i : ℕ} {b m : List ℕ} → 0 < W → Applied count es l i b → i < count → m ≡ entry_rows s (get_or es i no_entry) W top first n b → Applied count es l (i + 1) m
    applied-next {i} {b} {m} w a h em =
        let e = get_or es i no_entry in
        record {
          upto = omega arith;
          same = ap length (em ∙ on-rows e b w) ∙ length-change _ _ b ∙ a.same;
          sofar = em ∙ rw a.sofar (over-rows e _ l w ∙ change-by rows _ _ l (λ k t. sym (entries_next s es i (k % W) (first + (k / W - top)) (dot_at l k))));
        }

    -- on paper
    pub applied-end : {i : ℕ} {b : List ℕ} → Applied count es l i b → count ≤ i → (paper : RGBA) (buf : List ℕ)
        → l ≡ change (within (top * W) (top * W + n * W)) (λ _ _. paper) buf → b ≡ band_on s W paper (firsts count es) first top n buf
    unfolding band_on
    applied-end {i} {b} a h paper buf el =
        let e : i ≡ count = omega (arith, a.upto) in
        let f : l ≡ change rows (λ _ _. paper) buf = el ∙ ap (λ (k : ℕ). change (within (top * W) k) (λ _ _. paper) buf) (sym (add-mul top n W)) in
        let c : b ≡ change rows (λ k d. entries_on s (firsts count es) (k % W) (first + (k / W - top)) d) l = rw e at a.sofar in
        c ∙ rw f (change-over rows _ _ buf)

-- ---- one of them is the plan's row

module _ (s : List ℕ) (W : ℕ) (paper : RGBA) (es : List Entry) (row : ℕ) (l : List ℕ) where
  pub band-one : band_on s W paper es row 0 1 l ≡ row_on s W paper es row l
  unfolding band_on row_on
  band-one =
      let z : 0 * W ≡ 0 = zero-mul W in
      let o : (0 + 1) * W ≡ W = one-mul W in
      rw (z, o) (change-by (within 0 W) _ _ l (λ k t. let b = (within-true 0 W k t).1 in rw (mod-eq_of_lt b, div-eq_of_lt b, sub-zero, add-zero row)))

  -- and of one entry more
  pub row_more : (i : ℕ) → 0 < W → entry_rows s (get_or es i no_entry) W 0 row 1 (row_on s W paper (firsts i es) row l) ≡ row_on s W paper (firsts (i + 1) es) row l
  unfolding row_on
  row_more i w =
      let z : 0 * W ≡ 0 = zero-mul W in
      let o : (0 + 1) * W ≡ W = one-mul W in
      on-rows s W row 0 1 (get_or es i no_entry) _ w
      ∙ rw (z, o) (change-over (within 0 W) _ _ l ∙ change-by (within 0 W) _ _ l (λ k t.
      let b = (within-true 0 W k t).1 in rw (mod-eq_of_lt b, div-eq_of_lt b, sub-zero, add-zero row) (sym (entries_next s es i k row paper))))

-- ---- rows in bands: j of n are done in b

module _ (s : List ℕ) (W : ℕ) (paper : RGBA) (es : List Entry) (first n : ℕ) (l : List ℕ) where
  pub record Banded (j : ℕ) (b : List ℕ) : Type 0 where
    pub upto : j ≤ n
    pub same : length b ≡ length l
    pub sofar : b ≡ rows_on s W paper es first j l

  pub banded-start : Banded 0 l
  unfolding rows_on
  banded-start = record { upto = omega arith; same = refl; sofar = let z : 0 * W ≡ 0 = zero-mul W in rw z (run_none 0 _ l) }

  pub banded-next : {j : ℕ} (m : ℕ) {b c : List ℕ} → 0 < W → Banded j b → j + m ≤ n → c ≡ band_on s W paper es (first + j) j m b → Banded (j + m) c
  unfolding rows_on band_on
  banded-next {j} m {b} {c} w r h ec =
      record {
        upto = h;
        same = ap length ec ∙ length-change _ _ b ∙ r.same;
        sofar = run_more 0 (j * W) ((j + m) * W) _ (λ k _. entries_on s es (k % W) (first + k / W) paper) l (omega arith) (mul-le-mul_right W (omega arith)) one r.sofar ec;
      }
    where
      one : (k : ℕ) → j * W ≤ k → k < (j + m) * W → (d : RGBA) → entries_on s es (k % W) (first + j + (k / W - j)) paper ≡ entries_on s es (k % W) (first + k / W) paper
      one k u v d = ap (λ (y : ℕ). entries_on s es (k % W) y paper) (omega (arith, (le-div_iff_mul-le {x = j} w).1 u))

  pub banded-end : {j : ℕ} {b : List ℕ} → Banded j b → n ≤ j → b ≡ rows_on s W paper es first n l
  banded-end {j} r h = let e : j ≡ n = omega (arith, r.upto) in rw e at r.sofar

  -- the dot in column i of the j-th of them
  pub rows-dot : (i j : ℕ) → i < W → j < n → n * W * 4 ≤ length l → dot_at (rows_on s W paper es first n l) (j * W + i) ≡ entries_on s es i (first + j) paper
  unfolding rows_on
  rows-dot i j a b r =
      let q = at-column W i j a in
      let k : j * W + i < n * W = omega (arith, mul-le-mul_right W b, add-mul j 1 W) in
      change-picked (within 0 (n * W)) _ l (j * W + i) (within-yes 0 (n * W) (j * W + i) (omega arith) k) (omega arith) ∙ rw (q.0, q.1)

-- ---- ink

pub ink-none : (l : List ℕ) → 0 ≡ ink 0 l
unfolding ink
ink-none l = refl

pub ink-more : (l : List ℕ) (n : ℕ) {c d : ℕ} → c ≡ ink n l → {p : RGBA} → p ≡ dot_at l n → d ≡ (if has_ink p then 1 else 0) → c + d ≡ ink (n + 1) l
unfolding ink
ink-more l n ec ep ed = let u : n + 1 ≡ suc n = omega arith in rw (u, ec, ed, ep) refl

pub ink-one : (d : RGBA) {n : ℕ} → n ≡ (if has_ink d then 1 else 0) → n ≤ 1
ink-one d e = rw e (go (has_ink d))
  where
    go : (t : Bool) → (if t then 1 else 0) ≤ 1
    go true = omega arith
    go false = omega arith

pub ink-few : (n : ℕ) (l : List ℕ) → ink n l ≤ n
unfolding ink
ink-few n l = go n
  where
    go : (n : ℕ) → ink n l ≤ n
    go zero = omega arith
    go (suc n) = omega (arith, go n, ink-one (dot_at l n) refl)
