-- 01's border at its edges: a dot is blended once for each edge that it lies on. Assumes nothing.
use Rattle.std.proofs.Common.{◌≡◌, refl}
use Rattle.areas.specs.Areas.{edges}

only-dot : edges 1 1 0 0 ≡ 4
unfolding edges
only-dot = refl

corner : edges 5 3 4 2 ≡ 2
unfolding edges
corner = refl

side : edges 5 3 4 1 ≡ 1
unfolding edges
side = refl

-- a picture of one row: its only row is the top and the bottom
only_row : edges 5 1 2 0 ≡ 2
unfolding edges
only_row = refl

middle : edges 5 3 2 1 ≡ 0
unfolding edges
middle = refl
