-- What cropping leaves, and from number 0 to what was tested. Assumes nothing.
use mathlib.Core.Path.{◌≡◌, refl, sym, ◌∙◌}
use mathlib.Core.Bool.{Bool, true, false, not, ◌&&◌, and-false}
use Prim.Native.Nat.{ℕ, ◌+◌, ◌-◌, ◌*◌, ◌≤◌, ◌<◌, min, max}
use native.Mathlib.Omega.{arith}
use lib.Dec.{ltb}
use borrow.Author.Tests.{ltb-false, leb-true}
use Rattle.numbers.specs.Numbers.{done}
use Rattle.std.specs.Prelude.{if◌then◌else◌}
use Rattle.colour.proofs.Tests.{and_both, neither}
use Rattle.thermal_image.specs.declared.ThermalImage.{ThermalImage}
use Rattle.refusals.specs.Refusals.{first, canvas_refusal, grow_refusal}
use Rattle.refusals.proofs.Codes.{first-none, first_done, room-done, side-done, off-done, across-done, empty-done}
use Rattle.places.specs.Places.{cropped, crop_wide, crop_tall, result_refusal, place_refusal, tall_after, flips, image_tall, flip_tall, flip_refusal, border_refusal}
use Rattle.places.specs.Steps.{Ready}

-- ---- what cropping leaves

-- a side that is cut or not
cut : (c : Bool) (side room : ℕ) → (if c then min side room else side) ≤ side
cut true side room = omega arith
cut false side room = omega arith

module _ (t : ThermalImage) (x y w : ℕ) where
  pub crop-wide : crop_wide t x y w ≤ w
  unfolding crop_wide
  crop-wide = cut (cropped t x y w) w (t.width - x)

  pub crop-across : x < t.width → x + crop_wide t x y w ≤ t.width
  unfolding crop_wide cropped
  crop-across b = by (cropped t x y w) refl
    where
      by : (c : Bool) → cropped t x y w ≡ c → x + (if c then min w (t.width - x) else w) ≤ t.width
      by true e = omega arith
      by false e = omega (arith, ltb-false t.width (x + w) (neither _ _ e).0)

  pub crop-tall : (h : ℕ) → crop_tall t x y w h ≤ h
  unfolding crop_tall
  crop-tall h = cut (cropped t x y w && not t.auto_grow) h (t.height - y)

pub crop-min : (t : ThermalImage) (x y w : ℕ) → x < t.width → crop_wide t x y w ≡ min w (t.width - x)
unfolding crop_wide cropped
crop-min t x y w b = by (cropped t x y w) refl
  where
    by : (c : Bool) → cropped t x y w ≡ c → (if c then min w (t.width - x) else w) ≡ min w (t.width - x)
    by true e = refl
    by false e = omega (arith, ltb-false t.width (x + w) (neither _ _ e).0)

module _ (t : ThermalImage) (grow : t.auto_grow ≡ true) where
  -- with growth on no height is cut
  pub crop-grown : (x y w h : ℕ) → crop_tall t x y w h ≡ h
  unfolding crop_tall
  crop-grown x y w h = rw (grow, and-false)

  pub tall-grown : (x y w h : ℕ) → tall_after t x y w h ≡ max t.height (y + h)
  unfolding tall_after
  tall-grown x y w h = rw (crop-grown x y w h)

-- ---- an order

first-both : (a b : ℕ) → a ≡ done → b ≡ done → first a b ≡ done
first-both a b e f = sym (first-none a b e) ∙ f

-- a canvas with more rows that 8 and 1 let pass may grow to them
grows-to : (t : ThermalImage) (rows n : ℕ) → t.height ≤ rows → canvas_refusal t.width t.height n ≡ done → result_refusal t.width rows n ≡ done → grow_refusal t.width t.height rows n ≡ done
unfolding grow_refusal result_refusal
grows-to t rows n h e f =
    let a = first_done _ _ f in
    let m : max t.height rows ≡ rows = omega arith in
    first-both _ _ (first-both _ _ e a.0) (rw m a.1)

pub place-done : (t : ThermalImage) (x y w h bytes rows n : ℕ) → place_refusal t x y w h bytes rows n ≡ done → t.height ≤ rows → y + crop_tall t x y w h ≤ rows
    → Ready t x y w h rows n
unfolding place_refusal
place-done t x y w h bytes rows n e more down =
    let a = first_done _ _ e in
    let b = first_done _ _ (first_done _ _ a.1).1 in
    let c = first_done _ _ (first_done _ _ b.1).1 in
    let s = side-done w h b.0 in
    record {
      on = off-done t.width t.height t.auto_grow x y c.0;
      wide = s.0;
      tall = s.1;
      more = more;
      down = down;
      grows = grows-to t rows n more a.0 (first_done _ _ c.1).1;
    }

-- a put, and an image
pub put-ready : (t : ThermalImage) (x y w h bytes n : ℕ) {rows : ℕ} → rows ≡ tall_after t x y w h → place_refusal t x y w h bytes rows n ≡ done → Ready t x y w h rows n
unfolding tall_after
put-ready t x y w h bytes n er e = place-done t x y w h bytes _ n e (omega arith) (omega arith)

image-tall : (upside : Bool) (t : ThermalImage) (x y w h : ℕ) → tall_after t x y w h ≤ image_tall upside t x y w h
unfolding image_tall
image-tall upside t x y w h = by (flips upside t x w h)
  where
    by : (f : Bool) → tall_after t x y w h ≤ (if f then max (tall_after t x y w h) (y + h) else tall_after t x y w h)
    by true = omega arith
    by false = omega arith

pub image-ready : (upside : Bool) (t : ThermalImage) (x y w h bytes n : ℕ) {rows : ℕ} → rows ≡ image_tall upside t x y w h
    → place_refusal t x y w h bytes rows n ≡ done → Ready t x y w h rows n
unfolding tall_after
image-ready upside t x y w h bytes n er e =
    let b = image-tall upside t x y w h in
    place-done t x y w h bytes _ n e (omega arith) (omega arith)

-- an image that is flipped
pub flips-across : (upside : Bool) (t : ThermalImage) (x w h : ℕ) → flips upside t x w h ≡ true → x + w ≤ t.width
unfolding flips
flips-across upside t x w h e = leb-true _ _ (and_both (upside && ltb 0 w && ltb 0 h) _ e).1

pub flips-down : (upside : Bool) (t : ThermalImage) (x y w h : ℕ) → flips upside t x w h ≡ true → y + h ≤ image_tall upside t x y w h
unfolding image_tall
flips-down upside t x y w h e = rw e (omega arith)

-- what is known where a flip is not refused
pub record Flips (t : ThermalImage) (x y w h rows n : ℕ) : Type 0 where
  pub on : x < t.width
  pub across : x + w ≤ t.width
  pub more : t.height ≤ rows
  pub down : y + h ≤ rows
  pub grows : grow_refusal t.width t.height rows n ≡ done

pub flip-tall : (t : ThermalImage) (y h : ℕ) → flip_tall t y h ≡ max t.height (y + h)
unfolding flip_tall
flip-tall t y h = refl

pub flip-done : (t : ThermalImage) (x y w h n : ℕ) {rows : ℕ} → rows ≡ flip_tall t y h → flip_refusal t x y w h n ≡ done → Flips t x y w h rows n
unfolding flip_refusal flip_tall
flip-done t x y w h n {rows} er e =
    let a = first_done _ _ e in
    let b = first_done _ _ a.1 in
    let c = first_done _ _ b.1 in
    let s = empty-done w h b.0 in
    let d = across-done t.width x w c.0 in
    record {
      on = omega arith;
      across = d;
      more = omega arith;
      down = omega arith;
      grows = grows-to t rows n (omega arith) a.0 (rw er c.1);
    }

pub border-done : (w h n : ℕ) → border_refusal w h n ≡ done → (0 < w) × (0 < h) × (w * h * 4 ≤ n)
unfolding border_refusal
border-done w h n e =
    let a = first_done _ _ (first_done _ _ e).1 in
    let s = empty-done w h a.0 in
    (s.0, s.1, omega (arith, room-done w h n a.1))
