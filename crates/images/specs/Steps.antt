-- The steps of decoding one colour: a source that is known to be sound, put on an output or blended onto it.
use Rattle.std.specs.Prelude.{ℕ, ◌+◌, ◌-◌, ◌*◌, ◌/◌, ◌%◌, ◌≤◌, ◌<◌, ◌≡◌, Bool, true, not, ◌&&◌, List, eqb}
use Rattle.numbers.specs.Numbers.{limit}
use Rattle.colour.specs.declared.RGBA.{RGBA}
use Rattle.dots.specs.Dots.{dot_at, change, within}
use Rattle.bits.specs.Bits.{landed}
use Rattle.images.specs.declared.scale.Source.{Source}
use Rattle.images.specs.Formats.{bytes_of}
use Rattle.images.specs.Stretching.{pixel_of}

-- n bytes hold the source, whose stretched sides are within the limit
pub record Sound (s : Source) (n : ℕ) : Type 0 where
  pub fx : 0 < s.fx
  pub fy : 0 < s.fy
  pub wide : s.w * s.fx ≤ limit
  pub tall : s.h * s.fy ≤ limit
  pub bytes : bytes_of s.format s.w s.h ≤ n

-- the same source in another colour
abbrev pub in_color : Source → RGBA → Source
in_color s c = record { format = s.format; w = s.w; h = s.h; fx = s.fx; fy = s.fy; color = c }

-- where row j is put and shows the source dots of the row above it
unfoldable pub repeated : ℕ → ℕ → Bool → Bool
repeated j fy blend = not blend && not (eqb (j % fy) 0)

-- the pixels of a source
unfoldable pub source_pixel : Source → List ℕ → ℕ → ℕ → RGBA
source_pixel s bytes = pixel_of s.format bytes s.w s.h s.fx s.fy s.color

-- row j of a picture W dots wide, from dot `at` on
unfoldable pub picture_row_on : ℕ → ℕ → Bool → (ℕ → ℕ → RGBA) → ℕ → List ℕ → List ℕ
picture_row_on at W blend pixel j out = change (within at (at + W)) (λ i d. landed blend (pixel (i - at) j) d) out

-- a picture of W by H dots from the first dot on
unfoldable pub picture_on : ℕ → ℕ → Bool → (ℕ → ℕ → RGBA) → List ℕ → List ℕ
picture_on W H blend pixel out = change (within 0 (W * H)) (λ i d. landed blend (pixel (i % W) (i / W)) d) out

-- where row j is the row above it, that one is there
pub record Above (s : Source) (bytes : List ℕ) (blend : Bool) (at j : ℕ) (out : List ℕ) : Type 0 where
  pub room : repeated j s.fy blend ≡ true → s.w * s.fx ≤ at
  pub dots : repeated j s.fy blend ≡ true → (i : ℕ) → at ≤ i → i < at + s.w * s.fx → dot_at out (i - s.w * s.fx) ≡ source_pixel s bytes (i - at) j
