-- An image's entry that keeps the rules: where its data are, and its rows as rows of bits. Assumes nothing.
use Rattle.std.proofs.Common.{◌≡◌, sym, ap, ◌∙◌, Bool, true, List, ℕ, ◌+◌, ◌-◌, ◌*◌, ◌/◌, ◌%◌, ◌^◌, ◌≤◌, ◌<◌, div-lt_iff_lt-mul, mul-le-mul_right, mul_comm, add-mul, add_assoc, arith, drop, get_or-drop, leb-true, eqb-true}
use Rattle.std.specs.Int.{div_ceil}
use Rattle.colour.specs.Colour.{with_alpha}
use Rattle.colour.proofs.Tests.{and_both}
use Rattle.dots.specs.Dots.{dot_at, change, within, drawn}
use Rattle.dots.proofs.Laws.{change-by}
use Rattle.bits.specs.Bits.{row_bytes, bit_alpha, Shown, bits_on, alpha_drawn}
use Rattle.images.specs.Formats.{alpha_of, bytes_of}
use Rattle.images.specs.Stretching.{pixel_of}
use Rattle.entries.specs.declared.Entry.{Entry}
use Rattle.entries.specs.Entries.{good_stretch, good_image, image_pixel}

-- what the rules of an image come to
pub record Image (n : ℕ) (e : Entry) : Type 0 where
  pub fx : 1 ≤ e.stretch_x
  pub fy : 1 ≤ e.stretch_y
  pub tall : e.original_height * e.stretch_y ≡ e.h
  pub wide : e.w ≤ e.original_width * e.stretch_x
  pub part : e.start + row_bytes e.original_width * e.original_height ≤ n

pub image-rules : (n : ℕ) (e : Entry) → good_image n e ≡ true → Image n e
unfolding good_image good_stretch bytes_of
image-rules n e h =
    let a = and_both _ _ h in
    let b = and_both _ _ a.0 in
    let c = and_both _ _ b.0 in
    let d = and_both _ _ c.0 in
    record {
      fx = leb-true _ _ (and_both _ _ d.0).0;
      fy = leb-true _ _ (and_both _ _ d.1).0;
      tall = eqb-true _ _ c.1;
      wide = leb-true _ _ b.1;
      part = leb-true _ _ a.1;
    }

-- eighths of a width, rounded up, are a row's bytes
pub row-size : {n : ℕ} (w : ℕ) → n ≡ div_ceil w 8 → n ≡ row_bytes w
row-size w e = omega (arith, e)

module _ {n : ℕ} {e : Entry} (g : Image n e) {j : ℕ} (h : j < e.h) where
  -- row j's bits lie in the data part
  pub row-in-part : e.start + j / e.stretch_y * row_bytes e.original_width + row_bytes e.original_width ≤ n
  row-in-part =
      let r = row_bytes e.original_width in
      let q = j / e.stretch_y in
      let below : q < e.original_height = (div-lt_iff_lt-mul g.fy).1 (rw g.tall h) in
      let rows : (q + 1) * r ≤ e.original_height * r = mul-le-mul_right r (omega arith) in
      omega (arith, g.part, rows, add-mul q 1 r, mul_comm e.original_height r)

  -- and so do those of its first w dots
  pub row-shown : {w : ℕ} → w ≤ e.w → Shown (e.start + j / e.stretch_y * row_bytes e.original_width) e.stretch_x w n
  row-shown v i u =
      let x : i / e.stretch_x < e.original_width = (div-lt_iff_lt-mul g.fx).1 (omega (arith, g.wide)) in
      omega (arith, row-in-part)

-- the bits of a part are bits of the whole
alpha-drop : (s : List ℕ) (start at k : ℕ) → bit_alpha s (start + at) k ≡ bit_alpha (drop start s) at k
unfolding bit_alpha
alpha-drop s start at k =
    ap (λ (b : ℕ). b / 2 ^ (7 - k % 8) % 2 * 255) (rw (add_assoc start at (k / 8)) (sym (get_or-drop start s (at + k / 8) 0)))

-- w dots of bits are the first of the entry's own row j
pub image-is-row : (s : List ℕ) (e : Entry) (t : Bool) (at w j : ℕ) (l : List ℕ) {m : List ℕ}
    → m ≡ bits_on (alpha_drawn t e.color) s (e.start + j / e.stretch_y * row_bytes e.original_width) e.stretch_x at w l
    → m ≡ change (within at (at + w)) (λ i d. drawn t (image_pixel s e (i - at) j) d) l
unfolding bits_on image_pixel pixel_of alpha_of
image-is-row s e t at w j l em =
    em
    ∙ change-by _ _ _ l
    (λ i p. ap (λ (alpha : ℕ). drawn t (with_alpha e.color alpha) (dot_at l i)) (alpha-drop s e.start (j / e.stretch_y * row_bytes e.original_width) ((i - at) / e.stretch_x)))
