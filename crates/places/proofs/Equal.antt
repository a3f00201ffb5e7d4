-- A rectangle is a put of w·h equal pixels, for which 3, 6 and 7 do not arise. Assumes nothing.
use mathlib.Core.Path.{◌≡◌, refl, sym, ◌∙◌}
use mathlib.Core.Bool.{Bool, true, false, ◌&&◌}
use Prim.Native.Nat.{ℕ, zero, suc, ◌+◌, ◌-◌, ◌*◌, ◌/◌, ◌%◌, ◌≤◌, ◌<◌, max}
use native.Mathlib.Nat.{mul-le-mul_right, add-mul, mul_comm}
use native.Mathlib.Omega.{arith}
use lib.Dec.{ltb}
use borrow.Author.Tests.{eq-eqb, lt-ltb, le-ltb}
use Rattle.numbers.specs.Numbers.{done, short}
use Rattle.std.specs.Prelude.{if◌then◌else◌}
use Rattle.refusals.specs.Refusals.{first, canvas_refusal, side_refusal, off_refusal}
use Rattle.refusals.proofs.Codes.{first-none}
use Rattle.thermal_image.specs.declared.ThermalImage.{ThermalImage}
use Rattle.places.specs.Places.{cropped, crop_wide, crop_tall, tall_after, length_refusal, many_refusal, short_refusal, result_refusal, place_refusal, put_refusal, rect_refusal}
use Rattle.places.proofs.Codes.{crop-wide, crop-tall, tall-grown}

equal-length : (k : ℕ) → length_refusal (4 * k) ≡ done
unfolding length_refusal
equal-length k = rw (eq-eqb (4 * k % 4) 0 (omega arith))

equal-many : (w h : ℕ) → many_refusal w h (w * h) ≡ done
unfolding many_refusal
equal-many w h = rw (le-ltb (w * h) (w * h) (omega arith))

-- pixel (i, j) of w by h, or the end of a row of them, is among the first w·h
pub pixel-in : (w h i j : ℕ) → i ≤ w → j < h → j * w + i ≤ w * h
pixel-in w h i j a b = omega (arith, add-mul j 1 w, mul-le-mul_right {m = j + 1} {n = h} w (omega arith), mul_comm w h)

equal-short : (t : ThermalImage) (x y w h : ℕ) → short_refusal t x y w h (w * h) ≡ done
unfolding short_refusal
equal-short t x y w h = by (cropped t x y w) (crop_tall t x y w h) (crop-tall t x y w h)
  where
    by : (c : Bool) (h' : ℕ) → h' ≤ h → (if c && ltb 0 h' && ltb (w * h) ((h' - 1) * w + crop_wide t x y w) then short else done) ≡ done
    by false h' b = refl
    by true zero b = refl
    by true (suc h') b =
        let e : suc h' - 1 ≡ h' = omega arith in
        rw (lt-ltb 0 (suc h') (omega arith), e, le-ltb (w * h) (h' * w + crop_wide t x y w) (pixel-in w h _ h' (crop-wide t x y w) (omega arith)))

pub equal-refusal : (t : ThermalImage) (x y w h rows n : ℕ)
    → place_refusal t x y w h (4 * (w * h)) rows n
    ≡ first (canvas_refusal t.width t.height n) (first (side_refusal w h) (first (off_refusal t.width t.height t.auto_grow x y) (result_refusal t.width rows n)))
unfolding place_refusal
equal-refusal t x y w h rows n =
    let q : 4 * (w * h) / 4 ≡ w * h = omega arith in
    let off = off_refusal t.width t.height t.auto_grow x y in
    rw (q, equal-length (w * h), equal-many w h, equal-short t x y w h, ← first-none done (result_refusal t.width rows n) refl)
    (rw (← first-none done (first off (result_refusal t.width rows n)) refl, ← first-none done (first (side_refusal w h) (first off (result_refusal t.width rows n))) refl))

-- what a rectangle on a sound canvas that grows is refused for: 2, 5, 8, 1
pub rect-grown : (t : ThermalImage) → t.auto_grow ≡ true → (x y w h n : ℕ) → canvas_refusal t.width t.height n ≡ done
    → rect_refusal t x y w h n ≡ first (side_refusal w h) (first (off_refusal t.width t.height true x y) (result_refusal t.width (max t.height (y + h)) n))
unfolding rect_refusal put_refusal
rect-grown t grow x y w h n e = equal-refusal t x y w h (tall_after t x y w h) n ∙ sym (first-none _ _ e) ∙ rw (tall-grown t grow x y w h, grow)
