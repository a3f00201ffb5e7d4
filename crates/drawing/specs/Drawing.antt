-- Drawing on the canvas: 01, "Canvas". t is a canvas, n the length of its buffer, and w by h what is drawn at (x, y).
use Rattle.std.specs.Prelude.{ℕ, ◌+◌, ◌*◌, ◌/◌, ◌%◌, Bool, true, List, length, if◌then◌else◌}
use Rattle.colour.specs.declared.RGBA.{RGBA}
use Rattle.dots.specs.Dots.{drawn, tab, chan}
use Rattle.areas.specs.Areas.{area_on, pixel_drawn, flipped_on, bordered}
use Rattle.thermal_image.specs.declared.ThermalImage.{ThermalImage}
use Rattle.thermal_image.specs.declared.Answer.{Answer}
use Rattle.thermal_image.specs.Canvas.{sized, answered, written, papered}
use Rattle.places.specs.Places.{crop_wide, crop_tall, tall_after, flip_tall, flips, image_tall, put_refusal, rect_refusal, image_refusal, flip_refusal, border_refusal}

-- ---- growing, then drawing

-- done with that many rows, or refused with the canvas as given
unfoldable pub drew : ℕ → ThermalImage → ℕ → Answer
drew number t rows = answered number t (sized t t.width rows)

-- rows of paper down to a height
unfoldable pub grown_to : ThermalImage → ℕ → List ℕ → List ℕ
grown_to t rows l = papered t.width t.height rows t.paper_color l

-- rows of paper down to a height, then f drawn on what cropping leaves of the area. f goes by the column and row in the area
unfoldable pub placed : ThermalImage → ℕ → ℕ → ℕ → ℕ → ℕ → (ℕ → ℕ → RGBA → RGBA) → List ℕ → List ℕ
placed t x y w h rows f l = area_on t.width x y (crop_wide t x y w) (crop_tall t x y w h) f (grown_to t rows l)

-- what pixels, w to a row, draw. The last of them may be missing
abbrev pub pixels_drawn : Bool → List ℕ → ℕ → ℕ → ℕ → RGBA → RGBA
pixels_drawn multiply pixels w i j d = pixel_drawn multiply pixels (length pixels / 4) (j * w + i) d

-- ---- a put of pixels

unfoldable pub put : ThermalImage → ℕ → ℕ → ℕ → ℕ → ℕ → ℕ → Answer
put t x y w h bytes n = drew (put_refusal t x y w h bytes n) t (tall_after t x y w h)

unfoldable pub put_on : Bool → ThermalImage → ℕ → ℕ → ℕ → ℕ → List ℕ → List ℕ → List ℕ
put_on multiply t x y w h pixels l =
    written (put_refusal t x y w h (length pixels) (length l)) l (placed t x y w h (tall_after t x y w h) (pixels_drawn multiply pixels w) l)

-- ---- a rectangle is a put of w·h equal pixels

unfoldable pub rect : ThermalImage → ℕ → ℕ → ℕ → ℕ → ℕ → Answer
rect t x y w h n = drew (rect_refusal t x y w h n) t (tall_after t x y w h)

unfoldable pub rect_on : Bool → ThermalImage → ℕ → ℕ → ℕ → ℕ → RGBA → List ℕ → List ℕ
rect_on multiply t x y w h c l =
    written (rect_refusal t x y w h (length l)) l (placed t x y w h (tall_after t x y w h) (λ _ _ d. drawn multiply c d) l)

-- that many pixels of one colour
unfoldable pub equal_pixels : ℕ → RGBA → List ℕ
equal_pixels count c = tab (4 * count) (λ k. chan c (k % 4))

-- ---- a flip grows the canvas to y + h

unfoldable pub flip : ThermalImage → ℕ → ℕ → ℕ → ℕ → ℕ → Answer
flip t x y w h n = drew (flip_refusal t x y w h n) t (flip_tall t y h)

unfoldable pub flip_on : ThermalImage → ℕ → ℕ → ℕ → ℕ → List ℕ → List ℕ
flip_on t x y w h l = written (flip_refusal t x y w h (length l)) l (flipped_on t.width x y w h (grown_to t (flip_tall t y h) l))

-- ---- an upside-down image is put, then flipped. An image multiplies

unfoldable pub image_put : Bool → ThermalImage → ℕ → ℕ → ℕ → ℕ → ℕ → ℕ → Answer
image_put upside t x y w h bytes n = drew (image_refusal upside t x y w h bytes n) t (image_tall upside t x y w h)

unfoldable pub image_placed : Bool → ThermalImage → ℕ → ℕ → ℕ → ℕ → List ℕ → List ℕ → List ℕ
image_placed upside t x y w h pixels l = placed t x y w h (image_tall upside t x y w h) (pixels_drawn true pixels w) l

unfoldable pub image_on : Bool → ThermalImage → ℕ → ℕ → ℕ → ℕ → List ℕ → List ℕ → List ℕ
image_on upside t x y w h pixels l =
    written (image_refusal upside t x y w h (length pixels) (length l)) l
    (if flips upside t x w h then flipped_on t.width x y w h (image_placed upside t x y w h pixels l) else image_placed upside t x y w h pixels l)

-- ---- a border on a picture that fills the first 4·w·h bytes of a buffer

unfoldable pub border_on : ℕ → ℕ → RGBA → List ℕ → List ℕ
border_on w h c l = written (border_refusal w h (length l)) l (bordered w h c l)
