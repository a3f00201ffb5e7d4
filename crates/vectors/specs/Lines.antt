-- Lines, and the tally of those that agree.
use Rattle.std.specs.Prelude.{ℕ, suc, ◌+◌, Bool, List, [], ◌∷◌, drop, eqb, if◌then◌else◌}
use Rattle.vectors.specs.declared.lines.Tally.{Tally}

-- how many bytes up to the first newline, which counts, or to the end
unfoldable pub line_of : List ℕ → ℕ
line_of [] = 0
line_of (b ∷ l) = if eqb b 10 then 1 else suc (line_of l)

unfoldable pub line_end : List ℕ → ℕ → ℕ
line_end s at = at + line_of (drop at s)

abbrev pub counted : Tally → Bool → Tally
counted t agrees = record { agree = t.agree + (if agrees then 1 else 0); lines = t.lines + 1 }
