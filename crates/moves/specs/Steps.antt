-- Steps of turning a picture by a quarter.
use Rattle.std.specs.Prelude.{Bool, true, false, ◌&&◌, ℕ, ◌-◌, ◌/◌, ◌%◌, if◌then◌else◌}
use Rattle.dots.specs.Dots.{within}
use Rattle.moves.specs.declared.turned.Turn.{Turn}
use Rattle.moves.specs.declared.turned.Turn.TheVariants.{Quarter, ThreeQuarters}

-- a quarter turn to the right, or to the left
unfoldable pub quarter : Bool → Turn
quarter false = Quarter
quarter true = ThreeQuarters

-- place i along a side of n, or as many places back from its end
unfoldable pub along : ℕ → ℕ → Bool → ℕ
along n i back = if back then n - 1 - i else i

-- dot i of a picture `wide` dots wide is in the columns from c to c' and the rows from r to r'
unfoldable pub in_rect : ℕ → ℕ → ℕ → ℕ → ℕ → ℕ → Bool
in_rect wide c c' r r' i = within c c' (i % wide) && within r r' (i / wide)
