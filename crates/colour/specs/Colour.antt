-- A pixel, and a pixel c put onto a pixel s: 01, "Colour".
use Rattle.std.specs.Prelude.{ℕ, ◌||◌, ◌==◌, nat_eq, if◌then◌else◌}
use Rattle.colour.specs.Channel.{blend_byte, multiply_byte}
use Rattle.colour.specs.declared.RGBA.{RGBA}
use Rattle.colour.specs.declared.RenderColors.{RenderColors}

abbrev pub rgba : ℕ → ℕ → ℕ → ℕ → RGBA
rgba r g b a = record { r = r; g = g; b = b; a = a }

abbrev pub blank : RGBA
blank = rgba 0 0 0 0

abbrev pub white : RGBA
white = rgba 255 255 255 255

-- blue takes green's value
abbrev pub with_alpha : RGBA → ℕ → RGBA
with_alpha c a = rgba c.r c.g c.g a

-- 0 paper; 1 and 49, 2 and 50, 3 and 51 the three inks; all others ink 1
unfoldable pub color_for_number : RenderColors → ℕ → RGBA
color_for_number k n =
    if n == 0 then k.paper_color
    else if n == 1 || n == 49 then k.color_1
    else if n == 2 || n == 50 then k.color_2
    else if n == 3 || n == 51 then k.color_3
    else k.color_1

-- blending at alpha a: 0 changes nothing; alpha becomes 255 when a = 255, else stays
unfoldable pub blended_at : ℕ → RGBA → RGBA → RGBA
blended_at a c s =
    if a == 0 then s
    else rgba (blend_byte s.r c.r a) (blend_byte s.g c.g a) (blend_byte s.b c.b a) (if nat_eq a 255 then 255 else s.a)

-- blending at c's own alpha
abbrev pub blended : RGBA → RGBA → RGBA
blended c s = blended_at c.a c s

-- multiplying at c's own alpha a: 0 changes nothing; alpha stays
unfoldable pub multiplied : RGBA → RGBA → RGBA
multiplied c s =
    if c.a == 0 then s
    else rgba (multiply_byte s.r c.r c.a) (multiply_byte s.g c.g c.a) (multiply_byte s.b c.b c.a) s.a
