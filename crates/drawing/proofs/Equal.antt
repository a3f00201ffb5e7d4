-- A rectangle is a put of w·h equal pixels: the answer and the dots are the same. Assumes nothing.
use mathlib.Core.Path.{◌≡◌, ap, ◌∙◌}
use mathlib.Core.Bool.{Bool}
use mathlib.Core.List.{List}
use Prim.Native.Nat.{ℕ, ◌+◌, ◌*◌, ◌/◌, ◌%◌, ◌≤◌, ◌<◌}
use native.Mathlib.Omega.{arith}
use lib.ListN.{length}
use borrow.Author.Tests.{lt-ltb}
use Rattle.colour.specs.declared.RGBA.{RGBA}
use Rattle.dots.specs.Dots.{dot_at, drawn, chan}
use Rattle.dots.proofs.Laws.{length-tab, get_or-tab, dot-of}
use Rattle.areas.proofs.Laws.{area-by}
use Rattle.thermal_image.specs.declared.ThermalImage.{ThermalImage}
use Rattle.thermal_image.specs.Canvas.{written}
use Rattle.places.specs.Places.{crop_wide, crop_tall, tall_after, put_refusal, rect_refusal}
use Rattle.places.proofs.Codes.{crop-wide, crop-tall}
use Rattle.places.proofs.Equal.{pixel-in}
use Rattle.drawing.specs.Drawing.{grown_to, placed, pixels_drawn, equal_pixels, put, put_on, rect, rect_on}

equal-bytes : (count : ℕ) (c : RGBA) → length (equal_pixels count c) ≡ 4 * count
unfolding equal_pixels
equal-bytes count c = length-tab (4 * count) _

equal-dot : (count : ℕ) (c : RGBA) (k : ℕ) → k < count → dot_at (equal_pixels count c) k ≡ c
unfolding equal_pixels
equal-dot count c k b =
    dot-of (equal_pixels count c) k c
    (λ j q u e. get_or-tab (4 * count) (λ i. chan c (i % 4)) j 0 (omega arith) ∙ (let m : j % 4 ≡ q = omega arith in rw m))

module _ (t : ThermalImage) (x y w h : ℕ) (c : RGBA) where
  pub equal-put : (n : ℕ) → rect t x y w h n ≡ put t x y w h (length (equal_pixels (w * h) c)) n
  unfolding rect put rect_refusal
  equal-put n = rw (equal-bytes (w * h) c)

  pub equal-put-on : (multiply : Bool) (l : List ℕ) → rect_on multiply t x y w h c l ≡ put_on multiply t x y w h (equal_pixels (w * h) c) l
  unfolding rect_on put_on rect_refusal placed
  equal-put-on multiply l =
      rw (equal-bytes (w * h) c)
      (ap (written (put_refusal t x y w h (4 * (w * h)) (length l)) l)
      (area-by t.width x y (crop_wide t x y w) (crop_tall t x y w h) _ (grown_to t (tall_after t x y w h) l) (pixels_drawn multiply (equal_pixels (w * h) c) w)
      (λ i j u v. same i j (crop-wide t x y w) (crop-tall t x y w h) u v _)))
    where
      same : (i j : ℕ) {w' h' : ℕ} → w' ≤ w → h' ≤ h → i < w' → j < h' → (d : RGBA) → drawn multiply c d ≡ pixels_drawn multiply (equal_pixels (w * h) c) w i j d
      same i j a b u v d =
          let q : length (equal_pixels (w * h) c) / 4 ≡ w * h = omega (arith, equal-bytes (w * h) c) in
          let k : j * w + i < w * h = omega (arith, pixel-in w h (i + 1) j (omega arith) (omega arith)) in
          rw (q, lt-ltb (j * w + i) (w * h) k, equal-dot (w * h) c (j * w + i) k)
