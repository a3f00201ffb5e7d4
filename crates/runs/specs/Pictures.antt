-- Pictures, and what each command makes of one: 01, "Canvas" and "Jobs". s is the job's bytes throughout.
use Rattle.std.specs.Prelude.{ℕ, ◌+◌, ◌-◌, ◌*◌, ◌/◌, ◌%◌, List, [], ◌∷◌, drop, ltb, if◌then◌else◌}
use Rattle.colour.specs.declared.RGBA.{RGBA}
use Rattle.colour.specs.Colour.{blended}
use Rattle.dots.specs.Dots.{change, within, drawn}
use Rattle.images.specs.declared.formats.Format.TheVariants.{Bits}
use Rattle.images.specs.Stretching.{factor, pixel_of}
use Rattle.areas.specs.Areas.{in_area}
use Rattle.job.specs.declared.commands.Command.{Command}
use Rattle.job.specs.declared.commands.Command.TheVariants.{Rectangle, Image, Margin, Flip}
use Rattle.job.specs.Commands.{multiplies}

-- a dot for each column and row, however far down: growing only shows more of it
abbrev pub Picture : Type 0
Picture = ℕ → ℕ → RGBA

-- a w by h image put at (x, y), blending or multiplying
unfoldable pub with_image : ℕ → ℕ → ℕ → ℕ → ℕ → Picture → Picture → Picture
with_image x y w h mode pixel p i j = if in_area x y w h i j then drawn (multiplies mode) (pixel (i - x) (j - y)) (p i j) else p i j

-- m rows of paper added above
unfoldable pub with_margin : RGBA → ℕ → Picture → Picture
with_margin paper m p i j = if ltb j m then paper else p i (j - m)

-- each dot of the area blended with its top-to-bottom mirror at the mirror's alpha
unfoldable pub with_mirror : ℕ → ℕ → ℕ → ℕ → Picture → Picture
with_mirror x y w h p i j = if in_area x y w h i j then blended (p i (y + (h - 1 - (j - y)))) (p i j) else p i j

-- the picture after a command that is kept. A rectangle is a put of equal pixels, an image that of the image decoded from its bit rows
unfoldable pub after : List ℕ → RGBA → Command → Picture → Picture
after s paper (Rectangle x y w h c mode) p = with_image x y w h mode (λ _ _. c) p
after s paper (Image x y w h sx sy c mode start size) p =
    with_image x y (w * factor sx) (h * factor sy) mode (pixel_of Bits (drop start s) w h (factor sx) (factor sy) c) p
after s paper (Margin m) p = with_margin paper m p
after s paper (Flip x y w h) p = with_mirror x y w h p

unfoldable pub after_all : List ℕ → RGBA → List Command → Picture → Picture
after_all s paper [] p = p
after_all s paper (c ∷ cs) p = after_all s paper cs (after s paper c p)

-- a picture's first W columns and H rows, row by row in the first 4·W·H bytes of a buffer, whose other bytes are as they were
unfoldable pub shown : ℕ → ℕ → Picture → List ℕ → List ℕ
shown W H p l = change (within 0 (W * H)) (λ k _. p (k % W) (k / W)) l
