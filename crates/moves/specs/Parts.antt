-- Bytes of a buffer that are written.
use Rattle.std.specs.Prelude.{List, Bool, ℕ, length, get_or, if◌then◌else◌}
use Rattle.dots.specs.Dots.{tab}

-- the bytes that p picks become F's, and every other is as it was
unfoldable pub over : (ℕ → Bool) → (ℕ → ℕ) → List ℕ → List ℕ
over p F l = tab (length l) (λ j. if p j then F j else get_or l j 0)
