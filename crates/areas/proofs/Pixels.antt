-- Rows for which there may be fewer pixels than dots, or none. Assumes nothing.
use Rattle.std.proofs.Common.{◌≡◌, List, Bool, ℕ, ◌+◌, ◌-◌, ◌*◌, ◌≤◌, ◌<◌, min, arith, lt-ltb, le-ltb, if◌then◌else◌}
use Rattle.numbers.specs.Numbers.{limit}
use Rattle.numbers.proofs.Sides.{area}
use Rattle.dots.specs.Dots.{dot_at, change, within, drawn}
use Rattle.dots.proofs.Laws.{change-idle, change-same, Place, before, inside, past, place, within-yes, within_low, within-high}
use Rattle.areas.specs.Areas.{pixel_drawn}
use Rattle.pixels.specs.Pixels.{pixels_on}

-- a row for which there is no pixel
pub row-missing : (multiply : Bool) (pixels : List ℕ) (n from at w : ℕ) (l : List ℕ) → n ≤ from
    → l ≡ change (within at (at + w)) (λ k d. pixel_drawn multiply pixels n (from + (k - at)) d) l
row-missing multiply pixels n from at w l h = change-idle _ _ l (λ k e. rw (le-ltb (from + (k - at)) n (omega arith)))

-- a row whose first `count` dots have their pixel is the row of the dots whose pixel is there
pub row-given : (multiply : Bool) (pixels : List ℕ) (n from at w : ℕ) (l : List ℕ) {count : ℕ} → count ≡ min w (n - from)
    → pixels_on multiply pixels from at count l ≡ change (within at (at + w)) (λ k d. pixel_drawn multiply pixels n (from + (k - at)) d) l
unfolding pixels_on
row-given multiply pixels n from at w l {count} e = change-same _ _ _ _ l (λ k b. by k (place at (at + count) k) (place at (at + w) k))
  where
    by : (k : ℕ) → Place at (at + count) k → Place at (at + w) k
        → (if within at (at + count) k then drawn multiply (dot_at pixels (from + (k - at))) (dot_at l k) else dot_at l k)
        ≡ (if within at (at + w) k then pixel_drawn multiply pixels n (from + (k - at)) (dot_at l k) else dot_at l k)
    by k (before u) q = rw (within_low at (at + count) k u, within_low at (at + w) k u)
    by k (inside u v) q = rw (within-yes at (at + count) k u v, within-yes at (at + w) k u (omega arith), lt-ltb (from + (k - at)) n (omega arith))
    by k (past u v) (before x) = absurd (omega arith)
    by k (past u v) (inside x y) = rw (within-high at (at + count) k v, within-yes at (at + w) k x y, le-ltb (from + (k - at)) n (omega arith))
    by k (past u v) (past x y) = rw (within-high at (at + count) k v, within-high at (at + w) k y)

-- the number of a row's first pixel fits a usize
pub pixel-fits : {j h stride : ℕ} → j < h → stride ≤ limit → h ≤ limit → j * stride ≤ 268435456
pixel-fits t a b = area (omega arith) a
