-- Where drawing lands on the canvas, and what it is refused for, by sizes and lengths alone: 01, "Canvas". t is a canvas, n the length of its buffer, and w by h what is drawn at (x, y).
use Rattle.std.specs.Prelude.{ℕ, ◌+◌, ◌-◌, ◌*◌, ◌/◌, ◌%◌, min, max, Bool, not, ◌&&◌, ◌||◌, ltb, leb, eqb, if◌then◌else◌}
use Rattle.numbers.specs.Numbers.{done, wrong_length, too_many, short}
use Rattle.refusals.specs.Refusals.{first, canvas_refusal, tall_refusal, room_refusal, side_refusal, off_refusal, across_refusal, empty_refusal}
use Rattle.thermal_image.specs.declared.ThermalImage.{ThermalImage}

-- ---- cropping

-- x + w > W, or growth is off and y + w > H: it is the width that is added to y, as in the Rust
unfoldable pub cropped : ThermalImage → ℕ → ℕ → ℕ → Bool
cropped t x y w = ltb t.width (x + w) || (not t.auto_grow && ltb t.height (y + w))

-- w' and h': the width is cut to what is left of W, and with growth off the height to what is left of H
unfoldable pub crop_wide : ThermalImage → ℕ → ℕ → ℕ → ℕ
crop_wide t x y w = if cropped t x y w then min w (t.width - x) else w

unfoldable pub crop_tall : ThermalImage → ℕ → ℕ → ℕ → ℕ → ℕ
crop_tall t x y w h = if cropped t x y w && not t.auto_grow then min h (t.height - y) else h

-- ---- the height that drawing comes to

-- H becomes at least y + h', even if nothing is drawn or growth is off
unfoldable pub tall_after : ThermalImage → ℕ → ℕ → ℕ → ℕ → ℕ
tall_after t x y w h = max t.height (y + crop_tall t x y w h)

-- a flip grows the canvas to y + h
unfoldable pub flip_tall : ThermalImage → ℕ → ℕ → ℕ
flip_tall t y h = max t.height (y + h)

-- an upside-down image is put, then flipped if it has an area and x + w ≤ W
unfoldable pub flips : Bool → ThermalImage → ℕ → ℕ → ℕ → Bool
flips upside t x w h = upside && ltb 0 w && ltb 0 h && leb (x + w) t.width

unfoldable pub image_tall : Bool → ThermalImage → ℕ → ℕ → ℕ → ℕ → ℕ
image_tall upside t x y w h = if flips upside t x w h then max (tall_after t x y w h) (y + h) else tall_after t x y w h

-- ---- the numbers 3, 6, 7, and 8 with 1; the others stand in Refusals

-- 3: no whole number of pixels
unfoldable pub length_refusal : ℕ → ℕ
length_refusal bytes = if eqb (bytes % 4) 0 then done else wrong_length

-- 6: more pixels than w·h
unfoldable pub many_refusal : ℕ → ℕ → ℕ → ℕ
many_refusal w h pixels = if ltb (w * h) pixels then too_many else done

-- 7: cropping would read a pixel not given
unfoldable pub short_refusal : ThermalImage → ℕ → ℕ → ℕ → ℕ → ℕ → ℕ
short_refusal t x y w h pixels =
    if cropped t x y w && ltb 0 (crop_tall t x y w h) && ltb pixels ((crop_tall t x y w h - 1) * w + crop_wide t x y w) then short else done

-- 8, 1: the canvas that results, W wide with that many rows
unfoldable pub result_refusal : ℕ → ℕ → ℕ → ℕ
result_refusal W rows n = first (tall_refusal rows) (room_refusal W rows n)

-- ---- the orders

-- the put's order, 9, 3, 2, 6, 5, 7, 8, 1, for a canvas that comes to have that many rows
unfoldable pub place_refusal : ThermalImage → ℕ → ℕ → ℕ → ℕ → ℕ → ℕ → ℕ → ℕ
place_refusal t x y w h bytes rows n =
    first (canvas_refusal t.width t.height n)
    (first (length_refusal bytes)
    (first (side_refusal w h)
    (first (many_refusal w h (bytes / 4))
    (first (off_refusal t.width t.height t.auto_grow x y)
    (first (short_refusal t x y w h (bytes / 4))
    (result_refusal t.width rows n))))))

-- a put of pixels
unfoldable pub put_refusal : ThermalImage → ℕ → ℕ → ℕ → ℕ → ℕ → ℕ → ℕ
put_refusal t x y w h bytes n = place_refusal t x y w h bytes (tall_after t x y w h) n

-- a rectangle is a put of w·h equal pixels
unfoldable pub rect_refusal : ThermalImage → ℕ → ℕ → ℕ → ℕ → ℕ → ℕ
rect_refusal t x y w h n = put_refusal t x y w h (4 * (w * h)) n

-- an image: the put's order, with 8 and 1 decided for put and flip together
unfoldable pub image_refusal : Bool → ThermalImage → ℕ → ℕ → ℕ → ℕ → ℕ → ℕ → ℕ
image_refusal upside t x y w h bytes n = place_refusal t x y w h bytes (image_tall upside t x y w h) n

-- a flip: 9, 10, 5, 8, 1
unfoldable pub flip_refusal : ThermalImage → ℕ → ℕ → ℕ → ℕ → ℕ → ℕ
flip_refusal t x y w h n =
    first (canvas_refusal t.width t.height n)
    (first (empty_refusal w h)
    (first (across_refusal t.width x w)
    (result_refusal t.width (flip_tall t y h) n)))

-- a border on a picture that fills the first 4·w·h bytes of a buffer: 2, 10, 1
unfoldable pub border_refusal : ℕ → ℕ → ℕ → ℕ
border_refusal w h n = first (side_refusal w h) (first (empty_refusal w h) (room_refusal w h n))
