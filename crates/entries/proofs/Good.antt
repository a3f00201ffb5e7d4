-- The entries that the constructors make keep the rules. Assumes nothing.
use Rattle.std.proofs.Common.{ℕ, ◌+◌, ◌*◌, ◌-◌, ◌≤◌, ◌<◌, min, ◌≡◌, refl, true, arith, le-leb, eq-eqb}
use Rattle.colour.specs.declared.RGBA.{RGBA}
use Rattle.images.specs.declared.formats.Format.TheVariants.{Bits}
use Rattle.images.specs.Formats.{bytes_of}
use Rattle.images.specs.Stretching.{factor}
use Rattle.images.proofs.Sides.{factor-range}
use Rattle.entries.specs.Entries.{rectangle_entry, image_entry, good_stretch, good_image, good_kind, good_entry}

-- on the paper, in a plan W wide and H high with n bytes of data
module _ (W H n x y w h : ℕ) (c : RGBA) (mode : ℕ) (on : x < W) (m : mode ≤ 1) where
  pub rectangle-good : y + h ≤ H → good_entry W H n (rectangle_entry W x y w h c mode) ≡ true
  unfolding good_entry good_kind rectangle_entry
  rectangle-good d = rw (le-leb mode 1 m, le-leb (x + min w (W - x)) W (omega arith), le-leb (y + h) H d)

  pub image-good : (sx sy start : ℕ) → y + h * factor sy ≤ H → sx ≤ 255 → sy ≤ 255 → start + bytes_of Bits w h ≤ n
      → good_entry W H n (image_entry W x y w h (factor sx) (factor sy) c mode start) ≡ true
  unfolding good_entry good_kind good_image good_stretch image_entry
  image-good sx sy start d bx by part =
      let fx : ℕ = factor sx in
      let fy : ℕ = factor sy in
      let f = factor-range sx refl bx in
      let g = factor-range sy refl by in
      rw (
        le-leb mode 1 m,
        le-leb (x + min (w * fx) (W - x)) W (omega arith),
        le-leb (y + h * fy) H d,
        le-leb 1 fx f.0,
        le-leb fx 255 f.1,
        le-leb 1 fy g.0,
        le-leb fy 255 g.1,
        eq-eqb (h * fy) (h * fy) refl,
        le-leb (min (w * fx) (W - x)) (w * fx) (omega arith),
        le-leb (start + bytes_of Bits w h) n part,
      )
