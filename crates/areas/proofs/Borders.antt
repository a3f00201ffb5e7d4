-- Four areas drawn one after another are a border. Assumes nothing.
use Rattle.std.proofs.Common.{◌≡◌, refl, ap, ◌∙◌, ◌⊎◌, inl, inr, List, Bool, true, false, ℕ, zero, suc, ◌+◌, ◌-◌, ◌*◌, ◌/◌, ◌%◌, ◌≤◌, ◌<◌, mod-lt, zero-add, add-zero, add-suc, arith, length, eqb, eqb-true, if◌then◌else◌}
use native.Mathlib.Nat.{sub-zero}
use borrow.Author.Tests.{eqb-false}
use Rattle.colour.specs.declared.RGBA.{RGBA}
use Rattle.colour.specs.Colour.{blended}
use Rattle.dots.specs.Dots.{dot_at, drawn}
use Rattle.dots.proofs.Laws.{below, change-ext, change-dot, change-past, drawn-blended}
use Rattle.areas.specs.Areas.{in_area, area_on, one, edges, times, bordered}
use Rattle.areas.proofs.Laws.{length-area, in-area, not-in-area}

-- ---- times

times_more : (m n : ℕ) (f : RGBA → RGBA) (d : RGBA) → times n f (times m f d) ≡ times (m + n) f d
unfolding times
times_more m zero f d = rw add-zero
times_more m (suc n) f d = rw add-suc (ap f (times_more m n f d))

times-one : (t : Bool) (f : RGBA → RGBA) (d : RGBA) → (if t then f d else d) ≡ times (one t) f d
unfolding times
times-one true f d = refl
times-one false f d = refl

-- ---- an area that a test picks

area-test : (x y w h i j m n : ℕ) → (m ≡ n → (x ≤ i) × (i < x + w) × (y ≤ j) × (j < y + h)) → (x ≤ i → i < x + w → y ≤ j → j < y + h → m ≡ n) → in_area x y w h i j ≡ eqb m n
area-test x y w h i j m n is has = by (eqb m n) refl
  where
    by : (t : Bool) → eqb m n ≡ t → in_area x y w h i j ≡ t
    by true e = let b = is (eqb-true m n e) in in-area x y w h i j b.0 b.1 b.2 b.3
    by false e = not-in-area x y w h i j (λ p q r s. eqb-false m n e (has p q r s))

-- ---- areas drawn one after another: each dot k of m is that of l blended n k times

module _ (w h : ℕ) (c : RGBA) (l : List ℕ) where
  pub record Blends (n : ℕ → ℕ) (m : List ℕ) : Type 0 where
    pub same : length m ≡ length l
    pub dots : (k : ℕ) → k * 4 + 4 ≤ length l → dot_at m k ≡ times (n k) (blended c) (dot_at l k)
    pub past : (k : ℕ) → length l < k * 4 + 4 → dot_at m k ≡ dot_at l k

  blends-none : Blends (λ k. 0) l
  unfolding times
  blends-none = record { same = refl; dots = λ k b. refl; past = λ k b. refl }

  blends-more : (n : ℕ → ℕ) (x y v u : ℕ) {b m : List ℕ} → Blends n b → m ≡ area_on w x y v u (λ _ _ d. drawn false c d) b
      → Blends (λ k. n k + one (in_area x y v u (k % w) (k / w))) m
  unfolding area_on
  blends-more n x y v u {b} r e =
      record {
        same = ap length e ∙ length-area w x y v u (λ _ _ d. drawn false c d) b ∙ r.same;
        dots =
            λ k t.
            ap (λ (z : List ℕ). dot_at z k) e
            ∙ change-dot _ _ b k (rw r.same t)
            ∙ rw (← drawn-blended c (dot_at b k) refl, times-one (in_area x y v u (k % w) (k / w)) (blended c) (dot_at b k), r.dots k t)
            (times_more (n k) _ (blended c) (dot_at l k));
        past = λ k t. ap (λ (z : List ℕ). dot_at z k) e ∙ change-past _ _ b k (rw r.same t) ∙ r.past k t;
      }

  -- the areas drawn that have column i of row j
  abbrev four : ℕ → ℕ → ℕ
  four i j = 0 + one (in_area 0 0 w 1 i j) + one (in_area 0 (h - 1) w 1 i j) + one (in_area 0 0 1 h i j) + one (in_area (w - 1) 0 1 h i j)

  four-edges : (i j : ℕ) → i < w → j < h → four i j ≡ edges w h i j
  unfolding edges
  four-edges i j s t =
      let top : in_area 0 0 w 1 i j ≡ eqb j 0 = area-test 0 0 w 1 i j j 0 (λ e. omega arith) (λ a b c d. omega arith) in
      let bottom : in_area 0 (h - 1) w 1 i j ≡ eqb (j + 1) h = area-test 0 (h - 1) w 1 i j (j + 1) h (λ e. omega arith) (λ a b c d. omega arith) in
      let left : in_area 0 0 1 h i j ≡ eqb i 0 = area-test 0 0 1 h i j i 0 (λ e. omega arith) (λ a b c d. omega arith) in
      let right : in_area (w - 1) 0 1 h i j ≡ eqb (i + 1) w = area-test (w - 1) 0 1 h i j (i + 1) w (λ e. omega arith) (λ a b c d. omega arith) in
      rw (top, bottom, left, right, zero-add)

  four-none : (i j : ℕ) → h ≤ j → 0 < h → four i j ≡ 0
  four-none i j t p =
      rw
      (not-in-area 0 0 w 1 i j (λ a b c d. omega arith), not-in-area 0 (h - 1) w 1 i j (λ a b c d. omega arith), not-in-area 0 0 1 h i j (λ a b c d. omega arith), not-in-area (w - 1) 0 1 h i j (λ a b c d. omega arith))

  pub border : (0 < w) × (0 < h) × (w * h * 4 ≤ length l) → {b1 b2 b3 m : List ℕ}
      → b1 ≡ area_on w 0 0 w 1 (λ _ _ d. drawn false c d) l → b2 ≡ area_on w 0 (h - 1) w 1 (λ _ _ d. drawn false c d) b1
      → b3 ≡ area_on w 0 0 1 h (λ _ _ d. drawn false c d) b2 → m ≡ area_on w (w - 1) 0 1 h (λ _ _ d. drawn false c d) b3 → m ≡ bordered w h c l
  unfolding bordered area_on times
  border p e1 e2 e3 e4 =
      let r = blends-more _ (w - 1) 0 1 h (blends-more _ 0 0 1 h (blends-more _ 0 (h - 1) w 1 (blends-more _ 0 0 w 1 blends-none e1) e2) e3) e4 in
      change-ext _ _ l _ r.same (λ k b. r.dots k b ∙ at k (mod-lt k p.0) (below (k / w) h)) r.past
    where
      at : (k : ℕ) → k % w < w → (k / w < h) ⊎ (h ≤ k / w)
          → times (four (k % w) (k / w)) (blended c) (dot_at l k)
          ≡ (if in_area 0 0 w h (k % w) (k / w) then times (edges w h (k % w - 0) (k / w - 0)) (blended c) (dot_at l k) else dot_at l k)
      at k t (inl u) =
          ap (λ (n : ℕ). times n (blended c) (dot_at l k)) (four-edges (k % w) (k / w) t u)
          ∙ rw (in-area 0 0 w h (k % w) (k / w) (omega arith) (omega arith) (omega arith) (omega arith), sub-zero (k % w), sub-zero (k / w))
      at k t (inr u) =
          ap (λ (n : ℕ). times n (blended c) (dot_at l k)) (four-none (k % w) (k / w) u p.1)
          ∙ rw (not-in-area 0 0 w h (k % w) (k / w) (λ a b c d. omega arith))
