-- A lent buffer of bytes as dots: dot i is the four bytes r, g, b, a from 4·i. A change of a buffer is one function on dots.
use Rattle.std.specs.Prelude.{List, [], ◌∷◌, Bool, ◌&&◌, ℕ, zero, suc, ◌+◌, ◌*◌, ◌/◌, ◌%◌, length, get_or, set, ltb, leb, eqb, if◌then◌else◌}
use Rattle.colour.specs.declared.RGBA.{RGBA}
use Rattle.colour.specs.Colour.{rgba, blended, multiplied}

-- dot i of a buffer. A byte past the end reads as 0
abbrev pub dot_at : List ℕ → ℕ → RGBA
dot_at l i = rgba (get_or l (i * 4) 0) (get_or l (i * 4 + 1) 0) (get_or l (i * 4 + 2) 0) (get_or l (i * 4 + 3) 0)

-- the buffer with dot i written
abbrev pub set_dot : List ℕ → ℕ → RGBA → List ℕ
set_dot l i c = set (set (set (set l (i * 4) c.r) (i * 4 + 1) c.g) (i * 4 + 2) c.b) (i * 4 + 3) c.a

-- f 0, .., f (n - 1)
unfoldable pub tab : ℕ → (ℕ → ℕ) → List ℕ
tab zero f = []
tab (suc n) f = let h = f zero in h ∷ tab n (λ k. f (suc k))

-- byte k of a dot, k below 4
unfoldable pub chan : RGBA → ℕ → ℕ
chan c k = if eqb k 0 then c.r else if eqb k 1 then c.g else if eqb k 2 then c.b else c.a

-- the buffer l with every dot i now F i. Bytes past its last whole dot stay
unfoldable pub paint : (ℕ → RGBA) → List ℕ → List ℕ
paint F l = tab (length l) (λ j. if ltb (j / 4) (length l / 4) then chan (F (j / 4)) (j % 4) else get_or l j 0)

-- the dots that p picks become what g makes of them, and every other is as it was
unfoldable pub change : (ℕ → Bool) → (ℕ → RGBA → RGBA) → List ℕ → List ℕ
change p g l = paint (λ i. if p i then g i (dot_at l i) else dot_at l i) l

-- lo ≤ i < hi
unfoldable pub within : ℕ → ℕ → ℕ → Bool
within lo hi i = leb lo i && ltb i hi

-- c drawn onto s, blending or multiplying
unfoldable pub drawn : Bool → RGBA → RGBA → RGBA
drawn multiply c s = if multiply then multiplied c s else blended c s
