-- The canvas: 01, "Canvas". W, H, growth flag and paper colour; the dots row by row in the first 4·W·H bytes of a lent buffer.
use Rattle.std.specs.Prelude.{ℕ, ◌+◌, ◌-◌, ◌*◌, ◌/◌, max, Bool, true, false, List, length, leb, eqb, if◌then◌else◌}
use Rattle.numbers.specs.Numbers.{done}
use Rattle.colour.specs.declared.RGBA.{RGBA}
use Rattle.colour.specs.Colour.{blank, white}
use Rattle.dots.specs.Dots.{change, within}
use Rattle.moves.specs.declared.turned.Turn.{Turn}
use Rattle.moves.specs.Moves.{lowered_on, padded_on, copied_to, rgb_to, turned_wide, turned_tall, turned_on}
use Rattle.refusals.specs.Refusals.{canvas_refusal, wide_refusal, rows_of, grow_refusal, margin_refusal, widen_refusal, width_refusal, out_refusal, rgb_refusal}
use Rattle.thermal_image.specs.declared.ThermalImage.{ThermalImage}
use Rattle.thermal_image.specs.declared.Answer.{Answer}
use Rattle.thermal_image.specs.declared.Copied.{Copied}
use Rattle.thermal_image.specs.declared.Rgb.{Rgb}

-- ---- records

abbrev pub canvas : ℕ → ℕ → Bool → RGBA → ThermalImage
canvas W H grow paper = record { width = W; height = H; auto_grow = grow; paper_color = paper }

-- the canvas t with another width and height
abbrev pub sized : ThermalImage → ℕ → ℕ → ThermalImage
sized t W H = canvas W H t.auto_grow t.paper_color

-- done, with the canvas t
abbrev pub finished : ThermalImage → Answer
finished t = record { number = done; image = t }

-- refused, with the canvas t as given
abbrev pub refused : ℕ → ThermalImage → Answer
refused number t = record { number = number; image = t }

-- done with a canvas, or refused with the canvas as given
unfoldable pub answered : ℕ → ThermalImage → ThermalImage → Answer
answered number t next = record { number = number; image = if eqb number done then next else t }

-- a buffer as an operation leaves it: a refusal writes to no buffer
unfoldable pub written : ℕ → List ℕ → List ℕ → List ℕ
written number l next = if eqb number done then next else l

-- ---- a new canvas: white paper, growth on, no rows. A width above the limit is 2, and the record is zero

unfoldable pub made_new : ℕ → Answer
made_new W = answered (wide_refusal W) (canvas 0 0 false blank) (canvas W 0 true white)

-- ---- growing to a height adds rows of paper below; with W = 0 the height stays 0. Order 9, 8, 1

-- rows of paper from row H to row H'
unfoldable pub papered : ℕ → ℕ → ℕ → RGBA → List ℕ → List ℕ
papered W H H' paper l = change (within (W * H) (W * H')) (λ _ _. paper) l

unfoldable pub grown : ThermalImage → ℕ → ℕ → Answer
grown t height n = answered (grow_refusal t.width t.height height n) t (sized t t.width (rows_of t.width (max t.height height)))

unfoldable pub grown_on : ThermalImage → ℕ → List ℕ → List ℕ
grown_on t height l = written (grow_refusal t.width t.height height (length l)) l (papered t.width t.height (max t.height height) t.paper_color l)

-- ---- a top margin adds rows of paper above; with W = 0 the height stays 0. Order 9, 8, 1

unfoldable pub margined : ThermalImage → ℕ → ℕ → Answer
margined t rows n = answered (margin_refusal t.width t.height rows n) t (sized t t.width (rows_of t.width (t.height + rows)))

unfoldable pub margined_on : ThermalImage → ℕ → List ℕ → List ℕ
margined_on t rows l = written (margin_refusal t.width t.height rows (length l)) l (lowered_on (t.width * t.height) (t.width * rows) t.paper_color l)

-- ---- widening puts floor((new − W)/2) paper dots at the left and the rest at the right; a smaller width is done and changes nothing. Order 9, 2, 1

unfoldable pub widened : ThermalImage → ℕ → ℕ → Answer
widened t new n = answered (widen_refusal t.width t.height new n) t (sized t (max t.width new) t.height)

unfoldable pub widened_on : ThermalImage → ℕ → List ℕ → List ℕ
widened_on t new l =
    written (widen_refusal t.width t.height new (length l)) l
    (if leb new t.width then l else padded_on t.width t.height new ((new - t.width) / 2) t.paper_color l)

-- ---- setting the width empties the canvas (order 9, 2, and 1 cannot arise); `empty` and `reset` give H = 0 and keep W (order 9). No byte is written

unfoldable pub set_width : ThermalImage → ℕ → ℕ → Answer
set_width t new n = answered (width_refusal t.width t.height new n) t (sized t new 0)

unfoldable pub emptied : ThermalImage → ℕ → Answer
emptied t n = answered (canvas_refusal t.width t.height n) t (sized t t.width 0)

-- ---- writing to a second buffer, of `room` bytes. Order 9, 1. The canvas's own bytes stay

-- `copy` writes out the dots, and answers W and H

unfoldable pub copy_answer : ℕ → ThermalImage → Copied
copy_answer number t =
    if eqb number done then record { number = done; width = t.width; height = t.height } else record { number = number; width = 0; height = 0 }

unfoldable pub copied : ThermalImage → ℕ → ℕ → Copied
copied t n room = copy_answer (out_refusal t.width t.height n room) t

unfoldable pub copied_on : ThermalImage → List ℕ → List ℕ → List ℕ
copied_on t l out = written (out_refusal t.width t.height (length l) (length out)) out (copied_to (t.width * t.height) l out)

-- RGB output writes 3 bytes a dot and answers W and H; the canvas then has W = H = 0

unfoldable pub rgb_answer : ℕ → ThermalImage → Rgb
rgb_answer number t =
    if eqb number done then record { number = done; image = sized t 0 0; width = t.width; height = t.height }
    else record { number = number; image = t; width = 0; height = 0 }

unfoldable pub rgb : ThermalImage → ℕ → ℕ → Rgb
rgb t n room = rgb_answer (rgb_refusal t.width t.height n room) t

unfoldable pub rgb_on : ThermalImage → List ℕ → List ℕ → List ℕ
rgb_on t l out = written (rgb_refusal t.width t.height (length l) (length out)) out (rgb_to (t.width * t.height) l out)

-- ---- rotated clockwise into the second buffer. For 90 and 270 W and H change places, and H = 0 gives W = H = 0, as no width has no height

unfoldable pub rotated : Turn → ThermalImage → ℕ → ℕ → Answer
rotated by t n room =
    answered (out_refusal t.width t.height n room) t
    (sized t (turned_wide by t.width t.height) (rows_of (turned_wide by t.width t.height) (turned_tall by t.width t.height)))

unfoldable pub rotated_on : Turn → ThermalImage → List ℕ → List ℕ → List ℕ
rotated_on by t l out = written (out_refusal t.width t.height (length l) (length out)) out (turned_on by t.width t.height l out)
