-- The arrays that are made once for a colour and then drawn with over many dots.
use Rattle.std.specs.Prelude.{List, ◌≡◌, Bool, true, not, ◌&&◌, ℕ, ◌+◌, ◌-◌, ◌*◌, ◌%◌, ◌<◌, eqb, if◌then◌else◌}
use Rattle.colour.specs.declared.RGBA.{RGBA}
use Rattle.colour.specs.Channel.{multiply_byte}
use Rattle.colour.specs.Colour.{rgba}
use Rattle.dots.specs.Dots.{tab, chan}

-- four numbers over and over, for the 64 bytes of 16 dots
unfoldable pub lanes : RGBA → List ℕ
lanes x = tab 64 (λ j. chan x (j % 4))

-- a colour that is drawn by factors and terms: blending, or multiplying at full alpha
pub record Whole (multiply : Bool) (c : RGBA) : Type 0 where
  pub some : 0 < c.a
  pub full : multiply ≡ true → c.a ≡ 255

-- multiplying below full alpha outgrows factors and terms of 16 bits
unfoldable pub needs_tables : Bool → RGBA → Bool
needs_tables multiply c = multiply && not (eqb c.a 255)

-- an opaque colour that is blended covers what was there
unfoldable pub covers : Bool → RGBA → Bool
covers multiply c = not multiply && eqb c.a 255

-- a byte s under a colour drawn by factors and terms becomes the whole number nearest (s·factor + term − 128) / 255. The alpha byte becomes 255 under an opaque blend, and else stays
unfoldable pub factors : Bool → RGBA → RGBA
factors multiply c = if multiply then rgba c.r c.g c.b 255 else rgba (255 - c.a) (255 - c.a) (255 - c.a) (if eqb c.a 255 then 0 else 255)

unfoldable pub terms : Bool → RGBA → RGBA
terms multiply c =
    if multiply then rgba 128 128 128 128
    else rgba (c.r * c.a + 128) (c.g * c.a + 128) (c.b * c.a + 128) (if eqb c.a 255 then c.a * c.a + 128 else 128)

-- every byte multiplied by a channel c at alpha a
unfoldable pub multiply_table : ℕ → ℕ → List ℕ
multiply_table c a = tab 256 (λ s. multiply_byte s c a)
