-- Steps of drawing: an entry on rows of a buffer.
use Rattle.std.specs.Prelude.{ℕ, ◌+◌, ◌*◌, ◌≤◌, List}
use Rattle.numbers.specs.Numbers.{limit}
use Rattle.colour.specs.declared.RGBA.{RGBA}
use Rattle.dots.specs.Dots.{drawn}
use Rattle.areas.specs.Areas.{area_on}
use Rattle.job.specs.Commands.{multiplies}
use Rattle.entries.specs.declared.Entry.{Entry}
use Rattle.entries.specs.Entries.{entry_pixel, entry_on}

-- the entry's pixel in column i of its own row own + j, drawn on the dot d
abbrev pub own_row : List ℕ → Entry → ℕ → ℕ → ℕ → RGBA → RGBA
own_row s e own i j d = drawn (multiplies e.mode) (entry_pixel s e i (own + j)) d

-- the entry applied to `rows` rows of the picture from row `from` on, which stand in a buffer from row `top` on, W dots wide
unfoldable pub entry_rows : List ℕ → Entry → ℕ → ℕ → ℕ → ℕ → List ℕ → List ℕ
entry_rows s e W top from rows l = area_on W 0 top W rows (λ i j d. entry_on s e i (from + j) d) l

-- sizes for which no sum wraps, and rows that lie in a buffer of n bytes
pub record Placed (W top from rows n : ℕ) : Type 0 where
  pub some : 1 ≤ W
  pub wide : W ≤ limit
  pub last : from + rows ≤ limit
  pub room : (top + rows) * W * 4 ≤ n
