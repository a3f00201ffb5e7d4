-- Areas of dots. A canvas W dots wide lies in a buffer row by row: the dot in column i of row j is dot j·W + i.
use Rattle.std.specs.Prelude.{List, Bool, ◌&&◌, ℕ, zero, suc, ◌+◌, ◌-◌, ◌*◌, ◌/◌, ◌%◌, ◌≤◌, ◌<◌, ltb, eqb, if◌then◌else◌}
use Rattle.colour.specs.declared.RGBA.{RGBA}
use Rattle.colour.specs.Colour.{blended}
use Rattle.dots.specs.Dots.{dot_at, change, within, drawn}

-- the w by h area at (x, y) lies on the canvas, and the rows down to its last in a buffer of n bytes
pub record Fits (W x y w h n : ℕ) : Type 0 where
  pub some : 0 < W
  pub across : x + w ≤ W
  pub down : (y + h) * W * 4 ≤ n

-- column i of row j lies in the w by h area at (x, y)
unfoldable pub in_area : ℕ → ℕ → ℕ → ℕ → ℕ → ℕ → Bool
in_area x y w h i j = within x (x + w) i && within y (y + h) j

-- each dot of the area becomes what f makes of its column and row in the area and of the dot. Every other is as it was
unfoldable pub area_on : ℕ → ℕ → ℕ → ℕ → ℕ → (ℕ → ℕ → RGBA → RGBA) → List ℕ → List ℕ
area_on W x y w h f l = change (λ k. in_area x y w h (k % W) (k / W)) (λ k d. f (k % W - x) (k / W - y) d) l

-- d with pixel k of n drawn onto it. Where there is no pixel k it stays
abbrev pub pixel_drawn : Bool → List ℕ → ℕ → ℕ → RGBA → RGBA
pixel_drawn multiply pixels n k d = if ltb k n then drawn multiply (dot_at pixels k) d else d

-- each dot of the area blended with its top-to-bottom mirror in the area, at the mirror's alpha, all read before any is written
unfoldable pub flipped_on : ℕ → ℕ → ℕ → ℕ → ℕ → List ℕ → List ℕ
flipped_on W x y w h l = area_on W x y w h (λ i j d. blended (dot_at l ((y + (h - 1 - j)) * W + (x + i))) d) l

-- one where a test holds
abbrev pub one : Bool → ℕ
one t = if t then 1 else 0

-- how many of the edges of a w by h picture, top, bottom, left and right, column i of row j lies on
unfoldable pub edges : ℕ → ℕ → ℕ → ℕ → ℕ
edges w h i j = one (eqb j 0) + one (eqb (j + 1) h) + one (eqb i 0) + one (eqb (i + 1) w)

-- f done n times
unfoldable pub times : ℕ → (RGBA → RGBA) → RGBA → RGBA
times zero f d = d
times (suc n) f d = f (times n f d)

-- a w by h picture with c blended onto each dot once for each edge that the dot lies on
unfoldable pub bordered : ℕ → ℕ → RGBA → List ℕ → List ℕ
bordered w h c l = area_on w 0 0 w h (λ i j d. times (edges w h i j) (blended c) d) l
