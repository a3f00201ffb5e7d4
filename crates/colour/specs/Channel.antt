-- One channel, a byte: c goes onto s at alpha a. 01, "Colour".
use Rattle.std.specs.Prelude.{◌≡◌, ℕ, ◌+◌, ◌-◌, ◌*◌, ◌/◌, ◌≤◌, Bool, false, not, ◌&&◌, pos, nat_lt, Float}
use Rattle.std.specs.Float.{nan, inf, fin, binary32}
use Rattle.std.specs.Float.Ieee.{up, down, of_int, mul, div}

-- the whole number nearest n / d, the upper one at a tie
abbrev pub nearest : ℕ → ℕ → ℕ
nearest n d = (2 * n + d) / (2 * d)

-- the whole number nearest (c·a + s·(255 − a)) / 255
unfoldable pub blend_byte : ℕ → ℕ → ℕ → ℕ
blend_byte s c a = nearest (c * a + s * (255 - a)) 255

-- a byte as an f32
abbrev pub float : ℕ → Float
float n = of_int binary32 (pos n)

-- six f32 operations in this order: s/255, times c, divided by 255, times (a/255), times 255, with a/255 itself one of the six
unfoldable pub product : ℕ → ℕ → ℕ → Float
product s c a =
    mul binary32
    (mul binary32 (div binary32 (mul binary32 (div binary32 (float s) (float 255)) (float c)) (float 255)) (div binary32 (float a) (float 255)))
    (float 255)

-- rounded to nearest, ties away from zero. (A finite float has the size m·up e / down e; `product` is never anything else)
unfoldable pub round_away : Float → ℕ
round_away nan = 0
round_away (inf s) = 0
round_away (fin s m e) = nearest (m * up e) (down e)

unfoldable pub multiply_byte : ℕ → ℕ → ℕ → ℕ
multiply_byte s c a = round_away (product s c a)

-- what a multiplied channel r is: the value, and what follows from it for callers, |130050·r − 2·s·c·a| ≤ 65041, and for a = 255 the whole number nearest s·c/255
pub record Multiplied (s c a r : ℕ) : Type 0 where
  pub value : r ≡ multiply_byte s c a
  pub most : 130050 * r ≤ 2 * (s * c * a) + 65041
  pub least : 2 * (s * c * a) ≤ 130050 * r + 65041
  pub full : a ≡ 255 → r ≡ nearest (s * c) 255

-- not negative and below 255.5, so that it rounds to a byte
unfoldable pub in_byte : Float → Bool
in_byte nan = false
in_byte (inf s) = false
in_byte (fin s m e) = not s && nat_lt (2 * (m * up e)) (511 * down e)
