-- Checksums as folds. Assumes nothing.
use Rattle.std.proofs.Common.{ℕ, ◌≡◌, refl, List, [], ◌∷◌}
use Rattle.std.specs.List.{fold}
use Rattle.vectors.specs.Sums.{summed, sum_from}

pub sum-folded : (l : List ℕ) (sum : ℕ) → fold summed sum l ≡ sum_from sum l
unfolding sum_from
sum-folded [] sum = refl
sum-folded (b ∷ l) sum = sum-folded l (summed sum b)
