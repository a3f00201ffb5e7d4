-- Stretched images: 01, "Decoding". An image is a pixel for each column and row.
use Rattle.std.specs.Prelude.{ℕ, ◌*◌, ◌/◌, Bool, ◌||◌, List, ltb, eqb, if◌then◌else◌}
use Rattle.numbers.specs.Numbers.{limit}
use Rattle.colour.specs.Colour.{with_alpha}
use Rattle.colour.specs.declared.RGBA.{RGBA}
use Rattle.images.specs.declared.formats.Format.{Format}
use Rattle.images.specs.Formats.{alpha_of}

-- stretch factors 0 count as 1
unfoldable pub factor : ℕ → ℕ
factor n = if eqb n 0 then 1 else n

-- each dot becomes a block of fx by fy, and each pixel is `with_alpha` of the colour: the pixel at column i, row j
unfoldable pub pixel_of : Format → List ℕ → ℕ → ℕ → ℕ → ℕ → RGBA → ℕ → ℕ → RGBA
pixel_of f bytes w h fx fy c i j = with_alpha c (alpha_of f bytes w h (i / fx) (j / fy))

-- a given or stretched width or height above the limit
unfoldable pub is_large : ℕ → ℕ → ℕ → ℕ → Bool
is_large w h fx fy = ltb limit w || ltb limit h || ltb limit (w * fx) || ltb limit (h * fy)
