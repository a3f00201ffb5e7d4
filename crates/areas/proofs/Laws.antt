-- Laws of areas. Assumes nothing.
use Rattle.std.proofs.Common.{◌≡◌, refl, sym, ap, ◌∙◌, ◌⊎◌, inl, inr, List, Bool, true, false, ◌&&◌, ◌||◌, ℕ, ◌+◌, ◌-◌, ◌*◌, ◌/◌, ◌%◌, ◌≤◌, ◌<◌, div-lt_iff_lt-mul, le-div_iff_mul-le, div-add-mod', mul-le-mul_right, mul_comm, add-mul, arith, length, get_or, if◌then◌else◌}
use mathlib.Core.Bool.{and-true, and-false, and-or_distrib_left}
use Rattle.colour.specs.declared.RGBA.{RGBA}
use Rattle.colour.proofs.Tests.{and_both}
use Rattle.dots.specs.Dots.{dot_at, change, within, chan}
use Rattle.dots.proofs.Laws.{
  byte_of,
  length-change,
  change-dot,
  change-kept,
  change-idle,
  change-by,
  change-more,
  Place,
  before,
  inside,
  past,
  place,
  within-yes,
  within_low,
  within-high,
  within-true,
  within-then,
}
use Rattle.dots.proofs.Blocks.{in_row}
use Rattle.areas.specs.Areas.{Fits, in_area, area_on}

-- ---- columns and rows

-- where column i of row j stands
pub at-column : (W i j : ℕ) → i < W → ((j * W + i) / W ≡ j) × ((j * W + i) % W ≡ i)
at-column W i j h = let r = in_row j W (j * W + i) (omega arith) (omega arith) in (r.0, r.1 ∙ omega arith)

pub in-area : (x y w h i j : ℕ) → x ≤ i → i < x + w → y ≤ j → j < y + h → in_area x y w h i j ≡ true
unfolding in_area
in-area x y w h i j a b c d = rw (within-yes x (x + w) i a b, within-yes y (y + h) j c d)

pub in-area-true : (x y w h i j : ℕ) → in_area x y w h i j ≡ true → (x ≤ i) × (i < x + w) × (y ≤ j) × (j < y + h)
unfolding in_area
in-area-true x y w h i j e =
    let b = and_both (within x (x + w) i) (within y (y + h) j) e in
    let u = within-true x (x + w) i b.0 in
    let v = within-true y (y + h) j b.1 in
    (u.0, u.1, v.0, v.1)

pub not-in-area : (x y w h i j : ℕ) → (x ≤ i → i < x + w → y ≤ j → j < y + h → ⊥) → in_area x y w h i j ≡ false
not-in-area x y w h i j out = by (in_area x y w h i j) refl
  where
    by : (t : Bool) → in_area x y w h i j ≡ t → in_area x y w h i j ≡ false
    by true e = let b = in-area-true x y w h i j e in absurd (out b.0 b.1 b.2 b.3)
    by false e = e

-- an area and the one right below it
pub area-then : (x y w m n i j : ℕ) → in_area x y w (m + n) i j ≡ (in_area x y w m i j || in_area x (y + m) w n i j)
unfolding in_area
area-then x y w m n i j =
    let e : y + (m + n) ≡ y + m + n = omega arith in
    rw (e, within-then y (y + m) (y + m + n) j (omega arith) (omega arith)) (and-or_distrib_left (within x (x + w) i) (within y (y + m) j) (within (y + m) (y + m + n) j))

-- the w dots from column x of row r are an area of one row
pub run_row : (W x w r k : ℕ) → 0 < W → x + w ≤ W → within (r * W + x) (r * W + x + w) k ≡ in_area x r w 1 (k % W) (k / W)
unfolding in_area
run_row W x w r k p h = by (place (r * W) (r * W + W) k)
  where
    shift : (i : ℕ) → within (r * W + x) (r * W + x + w) (r * W + i) ≡ within x (x + w) i
    shift i = at (place x (x + w) i)
      where
        at : Place x (x + w) i → within (r * W + x) (r * W + x + w) (r * W + i) ≡ within x (x + w) i
        at (before u) = rw (within_low x (x + w) i u) (within_low _ _ _ (omega arith))
        at (inside u v) = rw (within-yes x (x + w) i u v) (within-yes _ _ _ (omega arith) (omega arith))
        at (past u v) = rw (within-high x (x + w) i v) (within-high _ _ _ (omega arith))

    by : Place (r * W) (r * W + W) k → within (r * W + x) (r * W + x + w) k ≡ (within x (x + w) (k % W) && within r (r + 1) (k / W))
    by (before u) =
        rw (within_low r (r + 1) (k / W) ((div-lt_iff_lt-mul p).1 u), and-false) (within_low _ _ k (omega arith))
    by (inside u v) =
        let q = in_row r W k u v in
        let e : r * W + (k - r * W) ≡ k = omega arith in
        rw (q.0, q.1, within-yes r (r + 1) r (omega arith) (omega arith), and-true) (ap (within (r * W + x) (r * W + x + w)) (sym e) ∙ shift (k - r * W))
    by (past u v) =
        rw (within-high r (r + 1) (k / W) ((le-div_iff_mul-le p).1 (omega (arith, add-mul r 1 W))), and-false) (within-high _ _ k (omega arith))

-- an area on a canvas of W by H dots fits
pub area-fits : (H : ℕ) {W x y w h n : ℕ} → 0 < W → x + w ≤ W → y + h ≤ H → W * H * 4 ≤ n → Fits W x y w h n
area-fits H {W} {x} {y} {w} {h} p a d room =
    record { some = p; across = a; down = omega (arith, mul_comm W H, mul-le-mul_right {m = y + h} {n = H} W d) }

-- the dots of a row of an area that fits lie in the buffer
pub row-room : {W x y w h n : ℕ} → Fits W x y w h n → (row : ℕ) → row < y + h → (row * W + x + w) * 4 ≤ n
row-room {W} {x} {y} {w} {h} fits row below =
    let last : (row + 1) * W ≤ (y + h) * W = mul-le-mul_right W (omega arith) in
    omega (arith, fits.across, fits.down, add-mul row 1 W)

-- ---- an area changed

-- dot k in the area: its column and row there
pub record Spot (W x y w h k : ℕ) : Type 0 where
  pub column : k % W - x < w
  pub row : k / W - y < h
  pub index : k ≡ (y + (k / W - y)) * W + (x + (k % W - x))

pub spot : (W x y w h k : ℕ) → in_area x y w h (k % W) (k / W) ≡ true → Spot W x y w h k
spot W x y w h k e =
    let b = in-area-true x y w h (k % W) (k / W) e in
    let r : y + (k / W - y) ≡ k / W = omega arith in
    record { column = omega arith; row = omega arith; index = rw r (omega (arith, div-add-mod' k W)) }

module _ (W x y w h : ℕ) (f : ℕ → ℕ → RGBA → RGBA) (l : List ℕ) where
  pub length-area : length (area_on W x y w h f l) ≡ length l
  unfolding area_on
  length-area = length-change _ _ l

  -- the dot in column i of row j of the canvas, one in the area, and one that is not
  pub area-dot : (i j : ℕ) → i < W → (j * W + i) * 4 + 4 ≤ length l
      → dot_at (area_on W x y w h f l) (j * W + i) ≡ (if in_area x y w h i j then f (i - x) (j - y) (dot_at l (j * W + i)) else dot_at l (j * W + i))
  unfolding area_on
  area-dot i j h b = let p = at-column W i j h in change-dot _ _ l (j * W + i) b ∙ rw (p.0, p.1)

  pub area-picked : (i j : ℕ) → x + w ≤ W → i < w → j < h → ((y + j) * W + (x + i)) * 4 + 4 ≤ length l
      → dot_at (area_on W x y w h f l) ((y + j) * W + (x + i)) ≡ f i j (dot_at l ((y + j) * W + (x + i)))
  area-picked i j a u v b =
      let ei : x + i - x ≡ i = omega arith in
      let ej : y + j - y ≡ j = omega arith in
      area-dot (x + i) (y + j) (omega arith) b ∙ rw (in-area x y w h (x + i) (y + j) (omega arith) (omega arith) (omega arith) (omega arith), ei, ej)

  pub area-kept : (i j : ℕ) → i < W → in_area x y w h i j ≡ false → dot_at (area_on W x y w h f l) (j * W + i) ≡ dot_at l (j * W + i)
  unfolding area_on
  area-kept i j h e = let p = at-column W i j h in change-kept _ _ l (j * W + i) (rw (p.0, p.1) e)

  -- what lies below the area, dots and bytes
  pub area-past : (k : ℕ) → 0 < W → (y + h) * W ≤ k → dot_at (area_on W x y w h f l) k ≡ dot_at l k
  unfolding area_on
  area-past k p b =
      change-kept _ _ l k (not-in-area x y w h (k % W) (k / W) (λ u v s t. omega (arith, (le-div_iff_mul-le p).1 b)))

  pub byte_past : (k : ℕ) → 0 < W → (y + h) * W * 4 ≤ k → get_or (area_on W x y w h f l) k 0 ≡ get_or l k 0
  byte_past k p b =
      byte_of (area_on W x y w h f l) (k / 4) k (k % 4) (omega arith) (omega arith)
      ∙ ap (λ (d : RGBA). chan d (k % 4)) (area-past (k / 4) p (omega arith))
      ∙ sym (byte_of l (k / 4) k (k % 4) (omega arith) (omega arith))

  -- nothing changes where f leaves each dot of the area as it is, or the area has no dot
  pub area-idle : ((i j : ℕ) → i < w → j < h → dot_at l ((y + j) * W + (x + i)) ≡ f i j (dot_at l ((y + j) * W + (x + i)))) → l ≡ area_on W x y w h f l
  unfolding area_on
  area-idle same =
      change-idle _ _ l
      (λ k e.
      let s = spot W x y w h k e in
      ap (dot_at l) s.index ∙ same _ _ s.column s.row ∙ ap (λ (n : ℕ). f (k % W - x) (k / W - y) (dot_at l n)) (sym s.index))

  pub area-none : (w ≡ 0) ⊎ (h ≡ 0) → l ≡ area_on W x y w h f l
  area-none (inl e) = area-idle (λ i j u v. absurd (omega arith))
  area-none (inr e) = area-idle (λ i j u v. absurd (omega arith))

  -- an f and a g that do the same to each dot of the area
  pub area-by : (g : ℕ → ℕ → RGBA → RGBA)
      → ((i j : ℕ) → i < w → j < h → f i j (dot_at l ((y + j) * W + (x + i))) ≡ g i j (dot_at l ((y + j) * W + (x + i))))
      → area_on W x y w h f l ≡ area_on W x y w h g l
  unfolding area_on
  area-by g same =
      change-by _ _ _ l
      (λ k e.
      let s = spot W x y w h k e in
      ap (λ (n : ℕ). f (k % W - x) (k / W - y) (dot_at l n)) s.index
      ∙ same _ _ s.column s.row
      ∙ ap (λ (n : ℕ). g (k % W - x) (k / W - y) (dot_at l n)) (sym s.index))

  -- a row more: b is the buffer before it, m the buffer after the dots from `at` went by a g that does to them what f says
  pub area-row : 0 < W → x + w ≤ W → (at : ℕ) → at ≡ (y + h) * W + x
      → (g : ℕ → RGBA → RGBA) → ((k : ℕ) → at ≤ k → k < at + w → (d : RGBA) → g k d ≡ f (k - at) h d)
      → {b m : List ℕ} → b ≡ area_on W x y w h f l → m ≡ change (within at (at + w)) g b → m ≡ area_on W x y w (h + 1) f l
  unfolding area_on
  area-row p a at ea g same eb em =
      em
      ∙ rw eb
      (change-by _ g (λ k d. f (k % W - x) (k / W - y) d) _ (λ k t. here k (within-true at (at + w) k t) _)
      ∙ change-more _ _ _ _ l
      (λ k. area-then x y w h 1 (k % W) (k / W) ∙ rw (ea, run_row W x w (y + h) k p a))
      (λ k t. apart k (within-true at (at + w) k t)))
    where
      row : (k : ℕ) → (at ≤ k) × (k < at + w) → (k / W ≡ y + h) × (k % W ≡ k - (y + h) * W)
      row k b = in_row (y + h) W k (omega (arith, ea)) (omega (arith, ea))

      here : (k : ℕ) → (at ≤ k) × (k < at + w) → (d : RGBA) → g k d ≡ f (k % W - x) (k / W - y) d
      here k b d =
          let r = row k b in
          let ei : k - (y + h) * W - x ≡ k - at = omega (arith, ea) in
          let ej : y + h - y ≡ h = omega arith in
          same k b.0 b.1 d ∙ rw (r.0, r.1, ei, ej)

      apart : (k : ℕ) → (at ≤ k) × (k < at + w) → in_area x y w h (k % W) (k / W) ≡ false
      apart k b = not-in-area x y w h (k % W) (k / W) (λ s t u v. omega (arith, (row k b).0))
