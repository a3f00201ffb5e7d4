-- What the canvas's own operations are refused for, and 2, 5 and 10 of what is drawn on it, by sizes and lengths alone: 01, "Canvas". The canvas is W by H dots, and n is the length of its buffer. Jobs share 2, 5, 8, 10 and 1.
use Rattle.std.specs.Prelude.{ℕ, ◌+◌, ◌*◌, max, Bool, not, ◌&&◌, ◌||◌, ltb, leb, eqb, if◌then◌else◌}
use Rattle.numbers.specs.Numbers.{limit, done, no_room, too_large, off_paper, too_tall, bad_canvas, empty_area}

-- the first number that is not 0
unfoldable pub first : ℕ → ℕ → ℕ
first a b = if eqb a done then b else a

-- with no width there is no height
unfoldable pub rows_of : ℕ → ℕ → ℕ
rows_of W H = if eqb W 0 then 0 else H

-- ---- the numbers

-- 9: W or H above the limit, W = 0 with H > 0, or a buffer under 4·W·H bytes
unfoldable pub canvas_refusal : ℕ → ℕ → ℕ → ℕ
canvas_refusal W H n = if ltb limit W || ltb limit H || (eqb W 0 && ltb 0 H) || ltb n (4 * (W * H)) then bad_canvas else done

-- 8: a height above the limit
unfoldable pub tall_refusal : ℕ → ℕ
tall_refusal H = if ltb limit H then too_tall else done

-- 2: a width above the limit
unfoldable pub wide_refusal : ℕ → ℕ
wide_refusal W = if ltb limit W then too_large else done

-- 1: a buffer of n bytes is too short for W by H dots
unfoldable pub room_refusal : ℕ → ℕ → ℕ → ℕ
room_refusal W H n = if ltb n (4 * (W * H)) then no_room else done

-- 1, of RGB output, which writes 3 bytes a dot
unfoldable pub rgb_room_refusal : ℕ → ℕ → ℕ → ℕ
rgb_room_refusal W H n = if ltb n (3 * (W * H)) then no_room else done

-- ---- the numbers of what is drawn, w by h at (x, y)

-- 2: a side above the limit
unfoldable pub side_refusal : ℕ → ℕ → ℕ
side_refusal w h = if ltb limit w || ltb limit h then too_large else done

-- 5: x ≥ W, or growth off and y ≥ H
unfoldable pub off_refusal : ℕ → ℕ → Bool → ℕ → ℕ → ℕ
off_refusal W H grow x y = if leb W x || (not grow && leb H y) then off_paper else done

-- 5, for a flip: x + w > W
unfoldable pub across_refusal : ℕ → ℕ → ℕ → ℕ
across_refusal W x w = if ltb W (x + w) then off_paper else done

-- 10: no area
unfoldable pub empty_refusal : ℕ → ℕ → ℕ
empty_refusal w h = if eqb w 0 || eqb h 0 then empty_area else done

-- ---- the orders

-- growing to a height: 9, 8, 1
unfoldable pub grow_refusal : ℕ → ℕ → ℕ → ℕ → ℕ
grow_refusal W H height n = first (first (canvas_refusal W H n) (tall_refusal height)) (room_refusal W (max H height) n)

-- a top margin: 9, 8, 1
unfoldable pub margin_refusal : ℕ → ℕ → ℕ → ℕ → ℕ
margin_refusal W H rows n = first (first (canvas_refusal W H n) (tall_refusal (H + rows))) (room_refusal W (H + rows) n)

-- setting the width: 9, 2. 1 cannot arise, since no byte is asked for
unfoldable pub width_refusal : ℕ → ℕ → ℕ → ℕ → ℕ
width_refusal W H new n = first (canvas_refusal W H n) (wide_refusal new)

-- widening: 9, 2, 1. A smaller width is done and changes nothing
unfoldable pub widen_refusal : ℕ → ℕ → ℕ → ℕ → ℕ
widen_refusal W H new n = first (width_refusal W H new n) (if leb new W then done else room_refusal new H n)

-- writing the dots to a second buffer, of `room` bytes: 9, 1
unfoldable pub out_refusal : ℕ → ℕ → ℕ → ℕ → ℕ
out_refusal W H n room = first (canvas_refusal W H n) (room_refusal W H room)

-- RGB output: 9, 1
unfoldable pub rgb_refusal : ℕ → ℕ → ℕ → ℕ → ℕ
rgb_refusal W H n room = first (canvas_refusal W H n) (rgb_room_refusal W H room)
