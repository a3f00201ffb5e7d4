-- `thermal::colours::thermal_draw_dots` meets its contract. Assumes nothing.
use mathlib.Core.Path.{◌≡◌, ◌∙◌}
use mathlib.Core.Bool.{Bool}
use mathlib.Core.List.{List}
use Prim.Native.Nat.{ℕ, ◌+◌}
use native.Mathlib.Nat.{zero-add}
use Rattle.colour.specs.declared.RGBA.{RGBA}
use Rattle.dots.specs.Dots.{change, within, drawn}
use Rattle.thermal.proofs.colours.thermal_draw_dots.Goals as goal

-- a run of n dots from the first
from_first : (m : Bool) (c : RGBA) (n : ℕ) (l : List ℕ) {e : List ℕ} → e ≡ change (within 0 (0 + n)) (λ _ s. drawn m c s) l → e ≡ change (within 0 n) (λ _ s. drawn m c s) l
from_first m c n l h = h ∙ rw zero-add

pub returns : goal.returns
returns c = from_first _ _ _ _ c.draw_run.ensures
