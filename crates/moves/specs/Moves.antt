-- Whole pictures of dots: moved, widened, turned, copied, and written as RGB. 01, "Canvas".
use Rattle.std.specs.Prelude.{List, ℕ, ◌+◌, ◌-◌, ◌*◌, ◌/◌, ◌%◌, ltb, if◌then◌else◌}
use Rattle.colour.specs.declared.RGBA.{RGBA}
use Rattle.dots.specs.Dots.{dot_at, chan, change, within}
use Rattle.moves.specs.declared.turned.Turn.{Turn}
use Rattle.moves.specs.declared.turned.Turn.TheVariants.{Quarter, Half, ThreeQuarters}
use Rattle.moves.specs.Parts.{over}

-- the first n dots moved `by` dots on, and `by` dots of paper before them
unfoldable pub lowered_on : ℕ → ℕ → RGBA → List ℕ → List ℕ
lowered_on n by paper l = change (within 0 (by + n)) (λ i _. if ltb i by then paper else dot_at l (i - by)) l

-- the dot at column c, row r of a picture that was w dots wide and has `left` dots of paper before each row, and paper after it
unfoldable pub padded_at : ℕ → ℕ → RGBA → List ℕ → ℕ → ℕ → RGBA
padded_at w left paper l c r = if within left (left + w) c then dot_at l (r * w + (c - left)) else paper

-- a w by h picture made `wide` dots wide
unfoldable pub padded_on : ℕ → ℕ → ℕ → ℕ → RGBA → List ℕ → List ℕ
padded_on w h wide left paper l = change (within 0 (wide * h)) (λ i _. padded_at w left paper l (i % wide) (i / wide)) l

-- the first n dots of src written to out
unfoldable pub copied_to : ℕ → List ℕ → List ℕ → List ℕ
copied_to n src out = change (within 0 n) (λ i _. dot_at src i) out

-- the first n dots of src written as bytes r, g, b: byte 3·k + j is byte j of dot k
unfoldable pub rgb_to : ℕ → List ℕ → List ℕ → List ℕ
rgb_to n src out = over (within 0 (n * 3)) (λ i. chan (dot_at src (i / 3)) (i % 3)) out

-- ---- turning a w by h picture clockwise: 90, 180 and 270 degrees

-- dot (x, y) goes to this column ..
unfoldable pub column_to : Turn → ℕ → ℕ → ℕ → ℕ → ℕ
column_to Quarter w h x y = h - 1 - y
column_to Half w h x y = w - 1 - x
column_to ThreeQuarters w h x y = y

-- .. and this row
unfoldable pub row_to : Turn → ℕ → ℕ → ℕ → ℕ → ℕ
row_to Quarter w h x y = x
row_to Half w h x y = h - 1 - y
row_to ThreeQuarters w h x y = w - 1 - x

-- the width of the turned picture, and its height, which is the width of a turned picture with its sides swapped
unfoldable pub turned_wide : Turn → ℕ → ℕ → ℕ
turned_wide Quarter w h = h
turned_wide Half w h = w
turned_wide ThreeQuarters w h = h

abbrev pub turned_tall : Turn → ℕ → ℕ → ℕ
turned_tall by w h = turned_wide by h w

-- the other way round, which `turned-dot` of proofs/Laws shows to be the same: what is found at column c, row r was in this column ..
unfoldable pub column_from : Turn → ℕ → ℕ → ℕ → ℕ
column_from Quarter w c r = r
column_from Half w c r = w - 1 - c
column_from ThreeQuarters w c r = w - 1 - r

-- .. and this row
unfoldable pub row_from : Turn → ℕ → ℕ → ℕ → ℕ
row_from Quarter h c r = h - 1 - c
row_from Half h c r = h - 1 - r
row_from ThreeQuarters h c r = c

-- the dot at column c, row r of the turned picture
abbrev pub turned_at : Turn → ℕ → ℕ → List ℕ → ℕ → ℕ → RGBA
turned_at by w h src c r = dot_at src (row_from by h c r * w + column_from by w c r)

-- dot i of the turned picture, whatever was there
unfoldable pub turned_dot : Turn → ℕ → ℕ → List ℕ → ℕ → RGBA → RGBA
turned_dot by w h src i _ = turned_at by w h src (i % turned_wide by w h) (i / turned_wide by w h)

-- the turned picture written to out
unfoldable pub turned_on : Turn → ℕ → ℕ → List ℕ → List ℕ → List ℕ
turned_on by w h src out = change (within 0 (w * h)) (turned_dot by w h src) out
