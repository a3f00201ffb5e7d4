-- Layers: where each lies in the data, what is drawn of it, and what layers make together. Assumes nothing.
use mathlib.Core.Path.{◌≡◌, refl, ap, ◌∙◌}
use mathlib.Core.Bool.{Bool, true, false}
use mathlib.Core.List.{List}
use Prim.Native.Nat.{ℕ, zero, suc, ◌+◌, ◌-◌, ◌*◌, ◌≤◌, ◌<◌}
use native.Mathlib.Nat.{le_trans, mul-le-mul_right, add-mul, add-sub_cancel_left}
use native.Mathlib.Numerals.{add-one}
use native.Mathlib.Omega.{arith}
use lib.ListN.{length, get_or, take, drop, length-take, length-drop}
use lib.Dec.{ltb}
use borrow.Author.Tests.{lt-ltb}
use Rattle.colour.specs.declared.RGBA.{RGBA}
use Rattle.colour.specs.declared.RenderColors.{RenderColors}
use Rattle.colour.specs.Colour.{color_for_number, blended}
use Rattle.dots.specs.Dots.{within}
use Rattle.dots.proofs.Laws.{change-over, length-change}
use Rattle.images.specs.declared.scale.Source.{Source}
use Rattle.images.specs.Formats.{raster_of}
use Rattle.graphics.specs.Layers.{layer_bytes, layer_start, layer_color, layer_data, layer_pixel, merged_pixel}
use Rattle.bits.specs.Bits.{landed}
use Rattle.images.specs.Steps.{Sound, in_color, source_pixel, picture_on}
use Rattle.graphics.specs.Steps.{Layered}

-- ---- one layer

-- the bytes of layer k, `size` after its colour byte, lie in the data
pub layer-ends : (bits : Bool) (s : Source) (k : ℕ) {n size : ℕ} → Layered bits s (k + 1) n → size ≡ layer_bytes bits s.w s.h → k * (1 + size) + 1 + size ≤ n
layer-ends bits s k {n} {size} y e =
    let w : (k + 1) * (1 + size) ≤ n = rw e y.whole in
    omega (arith, add-mul k 1 (1 + size))

-- fewer layers lie in the data too
pub fewer : (bits : Bool) (s : Source) {j k n : ℕ} → k ≤ j → Layered bits s j n → Layered bits s k n
fewer bits s {j} {k} h y = record { format = y.format; sound = y.sound; whole = le_trans (mul-le-mul_right (1 + layer_bytes bits s.w s.h) h) y.whole }

module _ (l : List ℕ) (at size : ℕ) where
  -- a part of a slice
  abbrev pub part : List ℕ
  part = take (at + size - at) (drop at l)

  part_length : at + size ≤ length l → length part ≡ size
  part_length h = simp (length-take, length-drop) (omega arith)

  pub layer-sound : (bits : Bool) (s : Source) (c : RGBA) {layer : Source} {n : ℕ} → layer ≡ in_color s c → Sound s n → n ≡ size → at + size ≤ length l → Sound layer (length part)
  layer-sound bits s c e o z h =
      rw (e, part_length h) record { fx = o.fx; fy = o.fy; wide = o.wide; tall = o.tall; bytes = rw (← z) o.bytes }

pub layer-drawn : (colors : RenderColors) (bytes : List ℕ) (bits : Bool) (s : Source) (k : ℕ) (blend : Bool) (out : List ℕ) {size : ℕ} {c : RGBA} {layer : Source}
    → s.format ≡ raster_of bits → size ≡ layer_bytes bits s.w s.h → c ≡ color_for_number colors (get_or bytes (k * (1 + size)) 0) → layer ≡ in_color s c
    → {m : List ℕ} → m ≡ picture_on (layer.w * layer.fx) (layer.h * layer.fy) blend (source_pixel layer (part bytes (k * (1 + size) + 1) size)) out
    → m ≡ picture_on (s.w * s.fx) (s.h * s.fy) blend (layer_pixel colors bytes bits s.w s.h s.fx s.fy k) out
unfolding source_pixel layer_pixel layer_data layer_color layer_start
layer-drawn colors bytes bits s k blend out ef es ec el em = em ∙ rw (el, ec, add-sub_cancel_left, es, ef)

-- ---- layers together

-- a picture blended onto a picture
pub picture-over : (W H : ℕ) (p q : ℕ → ℕ → RGBA) (l : List ℕ) → picture_on W H true p (picture_on W H false q l) ≡ picture_on W H false (λ i j. blended (p i j) (q i j)) l
unfolding picture_on landed
picture-over W H p q l = change-over (within 0 (W * H)) _ _ l

module _ (colors : RenderColors) (bytes : List ℕ) (bits : Bool) (s : Source) (l : List ℕ) where
  abbrev merging : ℕ → List ℕ
  merging k = picture_on (s.w * s.fx) (s.h * s.fy) false (merged_pixel colors bytes bits s.w s.h s.fx s.fy k) l

  -- what k layers leave
  abbrev after : ℕ → List ℕ
  after zero = l
  after (suc k) = merging k

  pub record Merging (n k : ℕ) (out : List ℕ) : Type 0 where
    pub upto : k ≤ n
    pub same : length out ≡ length l
    pub sofar : out ≡ after k

  pub merging_start : (n : ℕ) → Merging n 0 l
  merging_start n = record { upto = omega arith; same = refl; sofar = refl }

  -- layer k, put if it is the first
  layer-on : (k : ℕ) → picture_on (s.w * s.fx) (s.h * s.fy) (ltb 0 k) (layer_pixel colors bytes bits s.w s.h s.fx s.fy k) (after k) ≡ merging k
  unfolding merged_pixel
  layer-on zero = refl
  layer-on (suc k) = rw (lt-ltb 0 (suc k) (omega arith)) (picture-over _ _ _ _ l)

  pub merging-next : {n k : ℕ} {out out' : List ℕ} → Merging n k out → k < n
      → out' ≡ picture_on (s.w * s.fx) (s.h * s.fy) (ltb 0 k) (layer_pixel colors bytes bits s.w s.h s.fx s.fy k) out → Merging n (k + 1) out'
  unfolding picture_on
  merging-next {n} {k} {out} {out'} a h e =
      record { upto = omega arith; same = ap length e ∙ length-change _ _ out ∙ a.same; sofar = rw (add-one k) (e ∙ rw a.sofar (layer-on k)) }

  pub merging-end : {n k : ℕ} {out : List ℕ} → Merging n k out → n ≤ k → 0 < n → out ≡ merging (n - 1)
  merging-end {n} {k} a h p =
      let e : k ≡ suc (n - 1) = omega (arith, a.upto) in
      a.sofar ∙ rw e
