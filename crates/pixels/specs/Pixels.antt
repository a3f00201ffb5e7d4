-- Pixels of an image drawn on a run of dots.
use Rattle.std.specs.Prelude.{List, Bool, ℕ, ◌+◌, ◌-◌}
use Rattle.dots.specs.Dots.{dot_at, change, within, drawn}

-- count dots from dot `at`, each with the pixel in its place from pixel `from` drawn onto it
unfoldable pub pixels_on : Bool → List ℕ → ℕ → ℕ → ℕ → List ℕ → List ℕ
pixels_on multiply pixels from at count l = change (within at (at + count)) (λ k d. drawn multiply (dot_at pixels (from + (k - at))) d) l
