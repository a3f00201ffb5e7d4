-- Rows of a plan that stand further on in a buffer.
use Rattle.std.specs.Prelude.{ℕ, ◌+◌, ◌-◌, ◌*◌, ◌/◌, ◌%◌, List}
use Rattle.colour.specs.declared.RGBA.{RGBA}
use Rattle.dots.specs.Dots.{change, within}
use Rattle.entries.specs.declared.Entry.{Entry}
use Rattle.rows.specs.Rows.{entries_on}

-- n rows from row `first` on, from row `top` of the buffer on
unfoldable pub band_on : List ℕ → ℕ → RGBA → List Entry → ℕ → ℕ → ℕ → List ℕ → List ℕ
band_on s W paper es first top n l =
    change (within (top * W) ((top + n) * W)) (λ k _. entries_on s es (k % W) (first + (k / W - top)) paper) l
