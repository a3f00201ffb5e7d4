-- Where the dots of a turned picture come from, and the loop of a half turn. Assumes nothing.
use Rattle.std.proofs.Common.{◌≡◌, refl, sym, ap, ◌∙◌, List, Bool, true, false, not, ℕ, ◌+◌, ◌-◌, ◌*◌, ◌/◌, ◌%◌, ◌≤◌, ◌<◌, add-mul, mul_comm, mul-le-mul_right, mod-lt, div-add-mod', div-lt_iff_lt-mul, arith}
use Rattle.colour.specs.declared.RGBA.{RGBA}
use Rattle.dots.specs.Dots.{dot_at, change, within}
use Rattle.dots.proofs.Laws.{change-by, within-true}
use Rattle.dots.proofs.Blocks.{in_row}
use Rattle.moves.specs.declared.turned.Turn.{Turn}
use Rattle.moves.specs.declared.turned.Turn.TheVariants.{Quarter, Half, ThreeQuarters}
use Rattle.moves.specs.Steps.{quarter, along}
use Rattle.moves.specs.Moves.{column_to, row_to, turned_wide, turned_tall, column_from, row_from, turned_at, turned_dot, turned_on}
use Rattle.moves.proofs.Rects.{factor}

pub sides : (by : Turn) (w h : ℕ) → turned_tall by w h * turned_wide by w h ≡ w * h
unfolding turned_wide
sides Quarter w h = refl
sides Half w h = mul_comm h w
sides ThreeQuarters w h = refl

-- a dot of the source goes to a dot of the turned picture
pub column-out : (by : Turn) (w h x y : ℕ) → x < w → y < h → column_to by w h x y < turned_wide by w h
unfolding turned_wide column_to
column-out Quarter w h x y a b = omega arith
column-out Half w h x y a b = omega arith
column-out ThreeQuarters w h x y a b = b

pub row_out : (by : Turn) (w h x y : ℕ) → x < w → y < h → row_to by w h x y < turned_tall by w h
unfolding turned_wide row_to
row_out Quarter w h x y a b = a
row_out Half w h x y a b = omega arith
row_out ThreeQuarters w h x y a b = omega arith

-- from where it came
pub column-back : (by : Turn) (w h x y : ℕ) → x < w → y < h → column_from by w (column_to by w h x y) (row_to by w h x y) ≡ x
unfolding column_from column_to row_to
column-back Quarter w h x y a b = refl
column-back Half w h x y a b = omega arith
column-back ThreeQuarters w h x y a b = omega arith

pub row_back : (by : Turn) (w h x y : ℕ) → x < w → y < h → row_from by h (column_to by w h x y) (row_to by w h x y) ≡ y
unfolding row_from column_to row_to
row_back Quarter w h x y a b = omega arith
row_back Half w h x y a b = omega arith
row_back ThreeQuarters w h x y a b = refl

-- dot (x, y) of a w by h picture is one of its w·h
pub in-picture : (w h x y : ℕ) → x < w → y < h → y * w + x < h * w
in-picture w h x y a b = omega (arith, mul-le-mul_right {m = y + 1} {n = h} w (omega arith), add-mul y 1 w)

-- and its bytes lie in a buffer that has room for the picture
pub dot-room : (w h : ℕ) {x y n : ℕ} → x < w → y < h → h * w * 4 ≤ n → (y * w + x) * 4 + 4 ≤ n
dot-room w h {x} {y} a b room = omega (arith, in-picture w h x y a b)

-- ---- the dot at column c, row r of the turned picture

pub dot-turned : (by : Turn) (w h : ℕ) (src : List ℕ) (r : ℕ) {c : ℕ} → c < turned_wide by w h
    → (d : RGBA) → turned_at by w h src c r ≡ turned_dot by w h src (r * turned_wide by w h + c) d
unfolding turned_dot
dot-turned by w h src r {c} a d =
    let i = r * turned_wide by w h + c in
    let e = in_row r (turned_wide by w h) i (omega arith) (omega arith) in
    let m : i - r * turned_wide by w h ≡ c = omega arith in
    rw (e.0, e.1, m)

-- ---- a quarter turn to the right or to the left: column x of row y goes to column c of row r

along-in : (n i : ℕ) (back : Bool) → i < n → along n i back < n
unfolding along
along-in n i false h = h
along-in n i true h = omega arith

pub along-reads : (w h c r : ℕ) (s t : Bool) {x y n : ℕ} → c < h → r < w → x ≡ along w r s → y ≡ along h c t → w * h * 4 ≤ n → (y * w + x) * 4 + 4 ≤ n
along-reads w h c r s t a b ex ey room =
    rw (ex, ey) (dot-room w h (along-in w r s b) (along-in h c t a) (omega (arith, mul_comm w h)))

pub quarter-dot : (w h : ℕ) (left : Bool) (src : List ℕ) (c r : ℕ) {x y : ℕ} → c < h → x ≡ along w r left → y ≡ along h c (not left)
    → (d : RGBA) → dot_at src (y * w + x) ≡ turned_dot (quarter left) w h src (r * h + c) d
unfolding quarter along turned_wide column_from row_from
quarter-dot w h false src c r a ex ey d = rw (ex, ey) (dot-turned Quarter w h src r a d)
quarter-dot w h true src c r a ex ey d = rw (ex, ey) (dot-turned ThreeQuarters w h src r a d)

-- ---- a half turn: n dots, the last first

abbrev pub backwards : List ℕ → ℕ → ℕ → RGBA → RGBA
backwards src n i _ = dot_at src (n - 1 - i)

half_place : (w h q r : ℕ) → q < h → r < w → (h - 1 - q) * w + (w - 1 - r) ≡ w * h - 1 - (q * w + r)
half_place w h q r a b =
    let s = h - 1 - q in
    let e : h ≡ q + 1 + s = omega arith in
    let m : w * h ≡ q * w + w + s * w = mul_comm w h ∙ ap (λ (n : ℕ). n * w) e ∙ omega (arith, add-mul (q + 1) s w, add-mul q 1 w) in
    omega arith

pub half-turned : (w h : ℕ) (src l : List ℕ) → change (within 0 (w * h)) (λ i _. dot_at src (w * h - 1 - i)) l ≡ turned_on Half w h src l
unfolding turned_on turned_dot turned_wide column_from row_from
half-turned w h src l =
    change-by _ _ _ l
    (λ i t.
    let b = within-true 0 (w * h) i t in
    let some = factor h w i (omega (arith, mul_comm w h)) in
    let own = div-add-mod' i w in
    ap (dot_at src) (ap (λ (n : ℕ). w * h - 1 - n) (sym own) ∙ sym (half_place w h (i / w) (i % w) ((div-lt_iff_lt-mul some).1 (omega (arith, mul_comm w h))) (mod-lt i some))))
