-- One entry of a row plan, and what it does to a dot: 01, "Row plans".
use Rattle.std.specs.Prelude.{ℕ, ◌+◌, ◌-◌, ◌*◌, min, Bool, ◌&&◌, ◌||◌, List, drop, leb, eqb, if◌then◌else◌}
use Rattle.colour.specs.declared.RGBA.{RGBA}
use Rattle.dots.specs.Dots.{drawn}
use Rattle.images.specs.declared.formats.Format.TheVariants.{Bits}
use Rattle.images.specs.Formats.{bytes_of}
use Rattle.images.specs.Stretching.{pixel_of}
use Rattle.areas.specs.Areas.{in_area}
use Rattle.job.specs.Commands.{rectangle_kind, image_kind, sound_mode, multiplies}
use Rattle.entries.specs.declared.Entry.{Entry}

-- ---- the entry of a rectangle, and of an image of w by h dots stretched fx and fy times, on paper W wide: cropped

unfoldable pub rectangle_entry : ℕ → ℕ → ℕ → ℕ → ℕ → RGBA → ℕ → Entry
rectangle_entry W x y w h c mode = record {
  kind = rectangle_kind;
  mode = mode;
  stretch_x = 0;
  stretch_y = 0;
  color = c;
  x = x;
  y = y;
  w = min w (W - x);
  h = h;
  original_width = 0;
  original_height = 0;
  start = 0;
}

unfoldable pub image_entry : ℕ → ℕ → ℕ → ℕ → ℕ → ℕ → ℕ → RGBA → ℕ → ℕ → Entry
image_entry W x y w h fx fy c mode start = record {
  kind = image_kind;
  mode = mode;
  stretch_x = fx;
  stretch_y = fy;
  color = c;
  x = x;
  y = y;
  w = min (w * fx) (W - x);
  h = h * fy;
  original_width = w;
  original_height = h;
  start = start;
}

-- ---- the rules that an entry keeps, in a plan W wide and H high with n bytes of data

-- an image: factors 1 to 255, original height times factor = h, original width times factor ≥ w
unfoldable pub good_stretch : Entry → Bool
good_stretch e =
    leb 1 e.stretch_x && leb e.stretch_x 255
    && (leb 1 e.stretch_y && leb e.stretch_y 255)
    && eqb (e.original_height * e.stretch_y) e.h
    && leb e.w (e.original_width * e.stretch_x)

-- and a data part inside the given bytes
unfoldable pub good_image : ℕ → Entry → Bool
good_image n e = good_stretch e && leb (e.start + bytes_of Bits e.original_width e.original_height) n

-- a kind that translation makes
unfoldable pub good_kind : ℕ → Entry → Bool
good_kind n e = eqb e.kind rectangle_kind || (eqb e.kind image_kind && good_image n e)

-- mode 0 or 1, x + w ≤ W and y + h ≤ H
unfoldable pub good_entry : ℕ → ℕ → ℕ → Entry → Bool
good_entry W H n e = sound_mode e.mode && leb (e.x + e.w) W && leb (e.y + e.h) H && good_kind n e

-- ---- what an entry draws. s is the bytes that hold the data

-- an image's pixel at column i, row j of its own: that of the image decoded from the data part
unfoldable pub image_pixel : List ℕ → Entry → ℕ → ℕ → RGBA
image_pixel s e i j =
    pixel_of Bits (drop e.start s) e.original_width e.original_height e.stretch_x e.stretch_y e.color i j

-- a rectangle's is the colour
unfoldable pub entry_pixel : List ℕ → Entry → ℕ → ℕ → RGBA
entry_pixel s e i j = if eqb e.kind rectangle_kind then e.color else image_pixel s e i j

-- the entry applied to the dot d at column i, row j
unfoldable pub entry_on : List ℕ → Entry → ℕ → ℕ → RGBA → RGBA
entry_on s e i j d =
    if in_area e.x e.y e.w e.h i j then drawn (multiplies e.mode) (entry_pixel s e (i - e.x) (j - e.y)) d else d
