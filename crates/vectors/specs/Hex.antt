-- Lower-case hex at fixed places of a line.
use Rattle.std.specs.Prelude.{ℕ, zero, suc, ◌+◌, ◌*◌, ◌-◌, Bool, ◌&&◌, List, [], ◌∷◌, ◌++◌, get_or, leb, eqb, if◌then◌else◌}
use Rattle.std.specs.Bool.{beq}
use Rattle.colour.specs.declared.RGBA.{RGBA}
use Rattle.colour.specs.Colour.{rgba}

-- 0 to 9 and a to f; any other byte counts as 0
unfoldable pub digit_of : ℕ → ℕ
digit_of c = if leb 48 c && leb c 57 then c - 48 else if leb 97 c && leb c 102 then c - 97 + 10 else 0

-- the number of n digits: that of all but the last, times 16, and the last
unfoldable pub number_at : List ℕ → ℕ → ℕ → ℕ
number_at s at zero = 0
number_at s at (suc n) = number_at s at n * 16 + digit_of (get_or s (at + n) 0)

unfoldable pub byte_at : List ℕ → ℕ → ℕ
byte_at s at = number_at s at 2

-- the bytes of n pairs of digits
unfoldable pub bytes_at : List ℕ → ℕ → ℕ → List ℕ
bytes_at s at zero = []
bytes_at s at (suc n) = bytes_at s at n ++ (byte_at s (at + n * 2) ∷ [])

-- colours in the order r, g, b, a
abbrev pub color_at : List ℕ → ℕ → RGBA
color_at s at = rgba (byte_at s at) (byte_at s (at + 2)) (byte_at s (at + 4)) (byte_at s (at + 6))

unfoldable pub same_color : RGBA → RGBA → Bool
same_color c d = eqb c.r d.r && eqb c.g d.g && eqb c.b d.b && eqb c.a d.a

-- a canvas record: width, height, growth (0 or 1) and paper, with a blank between two
unfoldable pub is_record : List ℕ → ℕ → ℕ → ℕ → Bool → RGBA → Bool
is_record s at W H grows paper =
    eqb W (number_at s at 8) && eqb H (number_at s (at + 9) 8) && beq grows (eqb (get_or s (at + 18) 0) 49) && same_color paper (color_at s (at + 20))
