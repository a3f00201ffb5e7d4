-- Rows of bits as dots: 01, "Decoding".
use Rattle.std.specs.Prelude.{ℕ, ◌+◌, ◌-◌, ◌*◌, ◌/◌, ◌%◌, ◌^◌, ◌<◌, Bool, List, get_or, if◌then◌else◌}
use Rattle.colour.specs.Colour.{with_alpha, blended}
use Rattle.colour.specs.declared.RGBA.{RGBA}
use Rattle.dots.specs.Dots.{change, within, drawn}

-- the bytes of a row of w bits: ceil(w/8)
abbrev pub row_bytes : ℕ → ℕ
row_bytes w = (w + 7) / 8

-- bit k from byte `at` on, top bit first
abbrev pub bit_at : List ℕ → ℕ → ℕ → ℕ
bit_at bytes at k = get_or bytes (at + k / 8) 0 / 2 ^ (7 - k % 8) % 2

-- 1 is 255 and 0 is 0
unfoldable pub bit_alpha : List ℕ → ℕ → ℕ → ℕ
bit_alpha bytes at k = bit_at bytes at k * 255

-- a pixel p put, or blended onto the dot d
unfoldable pub landed : Bool → RGBA → RGBA → RGBA
landed blend p d = if blend then blended p d else p

-- ---- `count` dots of a row, each bit stretched to fx of them

-- the bits that they show lie in n bytes
abbrev pub Shown : ℕ → ℕ → ℕ → ℕ → Type 0
Shown from fx count n = (i : ℕ) → i < count → from + i / fx / 8 < n

-- each dot becomes what f makes of its alpha and of the dot
unfoldable pub bits_on : (ℕ → RGBA → RGBA) → List ℕ → ℕ → ℕ → ℕ → ℕ → List ℕ → List ℕ
bits_on f bytes from fx at count l = change (within at (at + count)) (λ i d. f (bit_alpha bytes from ((i - at) / fx)) d) l

-- the pixel of an alpha put, or blended onto a dot
abbrev pub alpha_landed : Bool → RGBA → ℕ → RGBA → RGBA
alpha_landed blend c alpha d = landed blend (with_alpha c alpha) d

-- the pixel of an alpha drawn on a dot, blending or multiplying
abbrev pub alpha_drawn : Bool → RGBA → ℕ → RGBA → RGBA
alpha_drawn multiply c alpha d = drawn multiply (with_alpha c alpha) d
