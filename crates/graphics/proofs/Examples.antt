-- 01, "Examples at the edges": the proved ones, as rows of a single computed check. Assumes nothing.
use Prim.Native.Nat.{ℕ}
use mathlib.Core.Bool.{true}
use mathlib.Core.Path.{◌≡◌, refl}
use mathlib.Core.List.{List, [], ◌∷◌, map}
use lib.Ieee.{of_int, mul, div}
use Rattle.colour.specs.declared.RGBA.{RGBA}
use Rattle.colour.specs.Channel.{blend_byte, product, round_away, multiply_byte}
use Rattle.colour.specs.Colour.{rgba, with_alpha}
use Rattle.images.specs.declared.formats.Format.TheVariants.{Bits, Columns}
use Rattle.bits.specs.Bits.{bit_alpha}
use Rattle.images.specs.Formats.{alpha_of, bytes_of}
use Rattle.images.specs.Stretching.{factor, is_large}
use Rattle.graphics.specs.Decoding.{lacks_room, refusal, answer, decoded}
use Rattle.graphics.specs.Layers.{layer_bytes, outgrown, layers_refusal, merged}

-- what the definitions give, and what 01 says
infix 70 ◌is◌
data Row : Type 0 where
  ◌is◌ : List ℕ → List ℕ → Row

given : Row → List ℕ
given (x is y) = x

said : Row → List ℕ
said (x is y) = y

pixel : RGBA → List ℕ
pixel c = c.r ∷ c.g ∷ c.b ∷ c.a ∷ []

-- the alphas of a 3 by 2 raster and of a 2 by 3 column image, row by row
raster : List ℕ → List ℕ
raster bytes = alpha_of Bits bytes 3 2 0 0 ∷ alpha_of Bits bytes 3 2 1 0 ∷ alpha_of Bits bytes 3 2 2 0 ∷ alpha_of Bits bytes 3 2 0 1 ∷ alpha_of Bits bytes 3 2 1 1 ∷ alpha_of Bits bytes 3 2 2 1 ∷ []

column : List ℕ → List ℕ
column bytes = alpha_of Columns bytes 2 3 0 0 ∷ alpha_of Columns bytes 2 3 1 0 ∷ alpha_of Columns bytes 2 3 0 1 ∷ alpha_of Columns bytes 2 3 1 1 ∷ alpha_of Columns bytes 2 3 0 2 ∷ alpha_of Columns bytes 2 3 1 2 ∷ []

-- the number for bit rows of w by h, unstretched, in n bytes, with room enough
number : ℕ → ℕ → ℕ → ℕ
number w h n = (decoded Bits w h 1 1 n 1000).number

rows : List Row
rows =
    -- blend 0 onto 255 at 128, 255 onto 0 at 128, 20 onto 10 at 100
    (blend_byte 255 0 128 ∷ []) is (127 ∷ [])
    ∷ (blend_byte 0 255 128 ∷ []) is (128 ∷ [])
    ∷ (blend_byte 10 20 100 ∷ []) is (14 ∷ [])
    -- multiply 200 by 100 at 255, 255 by 255 at 1
    ∷ (multiply_byte 200 100 255 ∷ []) is (78 ∷ [])
    ∷ (multiply_byte 255 255 1 ∷ []) is (1 ∷ [])
    -- with_alpha(7) of (10, 20, 30, 255)
    ∷ pixel (with_alpha (rgba 10 20 30 255) 7) is (10 ∷ 20 ∷ 20 ∷ 7 ∷ [])
    -- raster 3 by 2, bytes A0 40; the same with one byte
    ∷ raster (0xA0 ∷ 0x40 ∷ []) is (255 ∷ 0 ∷ 255 ∷ 0 ∷ 255 ∷ 0 ∷ [])
    ∷ (number 3 2 2 ∷ number 3 2 1 ∷ []) is (0 ∷ 3 ∷ [])
    -- w = 0, h = 5, no bytes; w = 0, one byte
    ∷ (number 0 5 0 ∷ number 0 5 1 ∷ []) is (0 ∷ 3 ∷ [])
    -- column 2 by 3, bytes A0 40
    ∷ column (0xA0 ∷ 0x40 ∷ []) is (255 ∷ 0 ∷ 0 ∷ 255 ∷ 255 ∷ 0 ∷ [])
    -- multi-colour bits 12 by 1, one layer, two bytes
    ∷ ((merged true 12 1 1 1 1 2 1000).number ∷ []) is (3 ∷ [])
    -- the damaged mark: 512 wide, 8,388,608 tall, no data
    ∷ (number 512 8388608 0 ∷ []) is (2 ∷ [])
    ∷ []

examples : map given rows ≡ map said rows
unfolding rows given said pixel raster column number blend_byte multiply_byte round_away product of_int mul div bit_alpha alpha_of bytes_of factor is_large lacks_room refusal answer decoded layer_bytes outgrown layers_refusal merged
examples = refl
