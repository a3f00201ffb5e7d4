-- Dots of a row of bits, some at a time.
use Rattle.std.specs.Prelude.{ℕ, ◌+◌, ◌-◌, ◌*◌, ◌/◌, ◌%◌, ◌^◌, List}
use Rattle.colour.specs.declared.RGBA.{RGBA}
use Rattle.dots.specs.Dots.{change, within}

-- n dots from dot `at` on by the bits of a byte, top bit first
unfoldable pub byte_on : (ℕ → RGBA → RGBA) → ℕ → ℕ → ℕ → List ℕ → List ℕ
byte_on f byte at n l = change (within at (at + n)) (λ i d. f (byte / 2 ^ (7 - (i - at)) % 2 * 255) d) l

-- n dots from dot `at` on, all by one bit
unfoldable pub bit_on : (ℕ → RGBA → RGBA) → ℕ → ℕ → ℕ → List ℕ → List ℕ
bit_on f bit at n l = change (within at (at + n)) (λ _ d. f (bit * 255) d) l
