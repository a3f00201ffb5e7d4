-- Growing, then drawing: what puts, rectangles and flips share. The canvas t with the buffer l has grown to `rows`, with the answer a and the buffer m. Assumes nothing.
use mathlib.Core.Path.{◌≡◌, ◌∙◌}
use mathlib.Core.List.{List}
use Prim.Native.Nat.{ℕ, ◌+◌, ◌*◌, ◌≤◌, ◌<◌, max}
use native.Mathlib.Omega.{arith}
use lib.ListN.{length}
use Rattle.numbers.specs.Numbers.{limit, done}
use Rattle.colour.specs.declared.RGBA.{RGBA}
use Rattle.areas.specs.Areas.{Fits, area_on}
use Rattle.areas.proofs.Laws.{area-fits}
use Rattle.thermal_image.specs.declared.ThermalImage.{ThermalImage}
use Rattle.thermal_image.specs.declared.Answer.{Answer}
use Rattle.refusals.specs.Refusals.{grow_refusal}
use Rattle.thermal_image.specs.Canvas.{sized, finished, answered, written, grown, grown_on}
use Rattle.thermal_image.proofs.Paper.{length-papered}
use Rattle.refusals.proofs.Codes.{rows-some, grow-done}
use Rattle.places.specs.Places.{crop_wide, crop_tall}
use Rattle.places.specs.Steps.{Ready}
use Rattle.places.proofs.Codes.{crop-across, crop-tall}
use Rattle.drawing.specs.Drawing.{grown_to, placed}

module _ (W H rows : ℕ) (more : H ≤ rows) where
  pub grows-within : (n : ℕ) → grow_refusal W H rows n ≡ done → rows ≤ limit
  grows-within n e = omega (arith, (grow-done W H rows n e).tall)

  pub grows-room : (n : ℕ) → grow_refusal W H rows n ≡ done → W * rows * 4 ≤ n
  grows-room n e = let top : max H rows ≡ rows = omega arith in omega (arith, rw top at (grow-done W H rows n e).room)

pub length-grown : (t : ThermalImage) (rows : ℕ) (l : List ℕ) → length (grown_to t rows l) ≡ length l
unfolding grown_to
length-grown t rows l = length-papered _ _ _ _ l

pub record Grown (t : ThermalImage) (rows : ℕ) (l : List ℕ) (a : Answer) (m : List ℕ) : Type 0 where
  pub answer : a ≡ finished (sized t t.width rows)
  pub bytes : m ≡ grown_to t rows l
  pub fits : (x y w h : ℕ) → x + w ≤ t.width → y + h ≤ rows → Fits t.width x y w h (length m)

-- where growing is not refused
pub grew : (t : ThermalImage) (rows : ℕ) (l : List ℕ) → 0 < t.width → t.height ≤ rows → grow_refusal t.width t.height rows (length l) ≡ done
    → {a : Answer} {m : List ℕ} → a ≡ grown t rows (length l) → m ≡ grown_on t rows l → Grown t rows l a m
unfolding grown grown_on answered written grown_to
grew t rows l some more e {m = m} ea em =
    let top : max t.height rows ≡ rows = omega arith in
    let bytes : m ≡ grown_to t rows l = em ∙ rw (e, top) in
    record {
      answer = ea ∙ rw (e, top, rows-some t.width rows some);
      bytes = bytes;
      fits = λ x y w h a d. area-fits rows some a d (rw (bytes, length-grown t rows l) (grows-room t.width t.height rows more (length l) e));
    }

-- then w' by h', which cropping leaves, is drawn on
pub record Placing (t : ThermalImage) (x y w h rows : ℕ) (l : List ℕ) (w' h' : ℕ) (a : Answer) (m : List ℕ) : Type 0 where
  pub answer : a ≡ finished (sized t t.width rows)
  pub fits : Fits t.width x y w' h' (length m)
  pub tall : h' ≤ limit
  pub bytes : (f : ℕ → ℕ → RGBA → RGBA) {b : List ℕ} → b ≡ area_on t.width x y w' h' f m → b ≡ placed t x y w h rows f l

pub placing : (t : ThermalImage) (x y w h rows : ℕ) (l : List ℕ) → Ready t x y w h rows (length l) → {w' h' : ℕ} → w' ≡ crop_wide t x y w → h' ≡ crop_tall t x y w h
    → {a : Answer} {m : List ℕ} → a ≡ grown t rows (length l) → m ≡ grown_on t rows l → Placing t x y w h rows l w' h' a m
unfolding placed
placing t x y w h rows l r {w'} {h'} ew eh ea em =
    let g = grew t rows l (omega (arith, r.on)) r.more r.grows ea em in
    record {
      answer = g.answer;
      fits = g.fits x y w' h' (rw ew (crop-across t x y w r.on)) (rw eh r.down);
      tall = omega (arith, crop-tall t x y w h, r.tall);
      bytes = λ f eb. eb ∙ rw (g.bytes, ew, eh);
    }
