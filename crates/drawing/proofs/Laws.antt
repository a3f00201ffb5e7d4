-- What puts, rectangles and flips come to: the record, and the dot in column i of row j. Assumes nothing.
use mathlib.Core.Path.{◌≡◌, refl, sym, ap, ◌∙◌}
use mathlib.Core.Logic.{⊎_elim}
use mathlib.Core.Bool.{Bool, true, false}
use mathlib.Core.List.{List}
use Prim.Native.Nat.{ℕ, ◌+◌, ◌-◌, ◌*◌, ◌≤◌, ◌<◌, min, max}
use native.Mathlib.Omega.{arith}
use lib.ListN.{length}
use lib.Dec.{ltb}
use borrow.Author.Tests.{lt-ltb, le-ltb}
use Rattle.numbers.specs.Numbers.{done}
use Rattle.std.specs.Prelude.{if◌then◌else◌}
use Rattle.colour.specs.declared.RGBA.{RGBA}
use Rattle.colour.specs.Colour.{blended}
use Rattle.dots.specs.Dots.{dot_at, drawn}
use Rattle.dots.proofs.Laws.{below}
use Rattle.areas.specs.Areas.{in_area, area_on, flipped_on}
use Rattle.areas.proofs.Laws.{area-dot, in-area-true}
use Rattle.thermal_image.specs.declared.ThermalImage.{ThermalImage}
use Rattle.refusals.specs.Refusals.{grow_refusal}
use Rattle.thermal_image.specs.Canvas.{sized, finished, answered, written, papered}
use Rattle.thermal_image.proofs.Laws.{within-rows, grown-kept, grown-paper}
use Rattle.places.specs.Places.{crop_wide, crop_tall, tall_after, flip_tall, put_refusal, rect_refusal, flip_refusal}
use Rattle.places.specs.Steps.{Ready}
use Rattle.places.proofs.Codes.{put-ready, Flips, flip-done, flip-tall, tall-grown, crop-grown, crop-min}
use Rattle.drawing.specs.Drawing.{drew, grown_to, placed, pixels_drawn, put, put_on, rect, rect_on, flip, flip_on}
use Rattle.drawing.proofs.Growing.{grows-room, length-grown, grew}

-- ---- the record

module _ (t : ThermalImage) (x y w h : ℕ) where
  pub put_record : (bytes n : ℕ) → put_refusal t x y w h bytes n ≡ done → put t x y w h bytes n ≡ finished (sized t t.width (tall_after t x y w h))
  unfolding put drew answered
  put_record bytes n e = rw e

  pub rect-record : (n : ℕ) → rect_refusal t x y w h n ≡ done → rect t x y w h n ≡ finished (sized t t.width (tall_after t x y w h))
  unfolding rect drew answered
  rect-record n e = rw e

-- ---- dots

-- the dot of a canvas, which is paper below its last row
abbrev pub canvas_dot : ThermalImage → List ℕ → ℕ → ℕ → RGBA
canvas_dot t l i j = if ltb j t.height then dot_at l (j * t.width + i) else t.paper_color

module _ (t : ThermalImage) (rows : ℕ) (l : List ℕ) (more : t.height ≤ rows) (grows : grow_refusal t.width t.height rows (length l) ≡ done) (i j : ℕ) (a : i < t.width) (b : j < rows) where
  grown-dot : dot_at (grown_to t rows l) (j * t.width + i) ≡ canvas_dot t l i j
  grown-dot =
      ap (λ (m : List ℕ). dot_at m (j * t.width + i)) (sym (grew t rows l (omega arith) more grows refl refl).bytes)
      ∙ ⊎_elim
      (λ u. grown-kept t rows i j l a u ∙ rw (lt-ltb j t.height u))
      (λ u. grown-paper t rows i j l grows a u b ∙ rw (le-ltb j t.height u))
      (below j t.height)

  -- then an area drawn on
  drawn-dot : (x y w h : ℕ) (f : ℕ → ℕ → RGBA → RGBA)
      → dot_at (area_on t.width x y w h f (grown_to t rows l)) (j * t.width + i) ≡ (if in_area x y w h i j then f (i - x) (j - y) (canvas_dot t l i j) else canvas_dot t l i j)
  drawn-dot x y w h f =
      area-dot t.width x y w h f (grown_to t rows l) i j a
      (rw (length-grown t rows l) (omega (arith, grows-room t.width t.height rows more (length l) grows, within-rows t i j rows a b)))
      ∙ rw grown-dot

-- with growth on the canvas grows to what is drawn, and only its right side is cropped
pub placed-grown : (t : ThermalImage) → t.auto_grow ≡ true → (x y w h : ℕ) (f : ℕ → ℕ → RGBA → RGBA) (l : List ℕ) → x < t.width
    → placed t x y w h (tall_after t x y w h) f l
    ≡ area_on t.width x y (min w (t.width - x)) h f (papered t.width t.height (max t.height (y + h)) t.paper_color l)
unfolding placed grown_to
placed-grown t g x y w h f l b = rw (tall-grown t g x y w h, crop-grown t g x y w h, crop-min t x y w b)

-- a put's dot: drawn on in the area, as it was or new paper outside it
pub placed-dot : (t : ThermalImage) (x y w h rows : ℕ) (l : List ℕ) → Ready t x y w h rows (length l) → (i j : ℕ) → i < t.width → j < rows → (f : ℕ → ℕ → RGBA → RGBA)
    → dot_at (placed t x y w h rows f l) (j * t.width + i)
    ≡ (if in_area x y (crop_wide t x y w) (crop_tall t x y w h) i j then f (i - x) (j - y) (canvas_dot t l i j) else canvas_dot t l i j)
unfolding placed
placed-dot t x y w h rows l r i j a b f = drawn-dot t rows l r.more r.grows i j a b x y (crop_wide t x y w) (crop_tall t x y w h) f

module _ (multiply : Bool) (t : ThermalImage) (x y w h : ℕ) (l : List ℕ) where
  pub put-placed : (pixels : List ℕ) → put_refusal t x y w h (length pixels) (length l) ≡ done
      → put_on multiply t x y w h pixels l ≡ placed t x y w h (tall_after t x y w h) (pixels_drawn multiply pixels w) l
  unfolding put_on written
  put-placed pixels e = rw e

  pub rect-placed : (c : RGBA) → rect_refusal t x y w h (length l) ≡ done → rect_on multiply t x y w h c l ≡ placed t x y w h (tall_after t x y w h) (λ _ _ d. drawn multiply c d) l
  unfolding rect_on written
  rect-placed c e = rw e

  module _ (i j : ℕ) (a : i < t.width) (b : j < tall_after t x y w h) where
    pub put-dot : (pixels : List ℕ) → put_refusal t x y w h (length pixels) (length l) ≡ done
        → dot_at (put_on multiply t x y w h pixels l) (j * t.width + i)
        ≡ (if in_area x y (crop_wide t x y w) (crop_tall t x y w h) i j then pixels_drawn multiply pixels w (i - x) (j - y) (canvas_dot t l i j) else canvas_dot t l i j)
    unfolding put_refusal
    put-dot pixels e =
        rw (put-placed pixels e) (placed-dot t x y w h _ l (put-ready t x y w h (length pixels) (length l) refl e) i j a b (pixels_drawn multiply pixels w))

    pub rect-dot : (c : RGBA) → rect_refusal t x y w h (length l) ≡ done
        → dot_at (rect_on multiply t x y w h c l) (j * t.width + i)
        ≡ (if in_area x y (crop_wide t x y w) (crop_tall t x y w h) i j then drawn multiply c (canvas_dot t l i j) else canvas_dot t l i j)
    unfolding rect_refusal put_refusal
    rect-dot c e = rw (rect-placed c e) (placed-dot t x y w h _ l (put-ready t x y w h (4 * (w * h)) (length l) refl e) i j a b (λ _ _ d. drawn multiply c d))

-- ---- a flip

module _ (t : ThermalImage) (x y w h : ℕ) where
  pub flip-record : (n : ℕ) → flip_refusal t x y w h n ≡ done → flip t x y w h n ≡ finished (sized t t.width (flip_tall t y h))
  unfolding flip drew answered
  flip-record n e = rw e

  pub flip-placed : (l : List ℕ) → flip_refusal t x y w h (length l) ≡ done
      → flip_on t x y w h l ≡ flipped_on t.width x y w h (papered t.width t.height (max t.height (y + h)) t.paper_color l)
  unfolding flip_on written grown_to
  flip-placed l e = rw (e, flip-tall t y h)

  -- a dot of the area is blended with its mirror
  pub flip-dot : (l : List ℕ) → flip_refusal t x y w h (length l) ≡ done → (i j : ℕ) → i < t.width → j < flip_tall t y h
      → dot_at (flip_on t x y w h l) (j * t.width + i)
      ≡ (if in_area x y w h i j then blended (canvas_dot t l i (y + (h - 1 - (j - y)))) (canvas_dot t l i j) else canvas_dot t l i j)
  unfolding flip_on written flipped_on
  flip-dot l e i j a b =
      let f = flip-done t x y w h (length l) refl e in
      rw e (drawn-dot t _ l f.more f.grows i j a b x y w h _ ∙ by f (in_area x y w h i j) refl)
    where
      by : Flips t x y w h (flip_tall t y h) (length l) → (p : Bool) → in_area x y w h i j ≡ p
          → (if p then blended (dot_at (grown_to t (flip_tall t y h) l) ((y + (h - 1 - (j - y))) * t.width + (x + (i - x)))) (canvas_dot t l i j) else canvas_dot t l i j)
          ≡ (if p then blended (canvas_dot t l i (y + (h - 1 - (j - y)))) (canvas_dot t l i j) else canvas_dot t l i j)
      by f true q =
          let s = in-area-true x y w h i j q in
          let ei : x + (i - x) ≡ i = omega arith in
          ap (λ (m : RGBA). blended m (canvas_dot t l i j)) (rw ei (grown-dot t _ l f.more f.grows i (y + (h - 1 - (j - y))) a (omega (arith, f.down))))
      by f false q = refl
