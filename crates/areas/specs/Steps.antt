-- A step of flipping: two rows.
use Rattle.std.specs.Prelude.{List, ◌||◌, ℕ, ◌+◌, ◌-◌, if◌then◌else◌}
use Rattle.colour.specs.Colour.{blended}
use Rattle.dots.specs.Dots.{dot_at, change, within}

-- two rows of w dots, each dot blended with the one that stands in its place in the other row
unfoldable pub pair_on : ℕ → ℕ → ℕ → List ℕ → List ℕ
pair_on top bottom w l =
    change
    (λ k. within top (top + w) k || within bottom (bottom + w) k)
    (λ k d. blended (dot_at l (if within top (top + w) k then k + (bottom - top) else k - (bottom - top))) d)
    l
