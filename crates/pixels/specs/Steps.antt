-- Steps of drawing pixels: whether all of them are clear or opaque, and the inks and alphas with which their bytes are drawn one by one.
use Rattle.std.specs.Prelude.{List, Bool, true, ◌&&◌, ◌||◌, ℕ, zero, suc, ◌+◌, ◌*◌, eqb, if◌then◌else◌}
use Rattle.colour.specs.declared.RGBA.{RGBA}
use Rattle.colour.specs.Channel.{nearest, blend_byte}
use Rattle.colour.specs.Colour.{rgba, white}
use Rattle.dots.specs.Dots.{dot_at, change, within}

-- a pixel that is clear or opaque, as those of a bit image are
unfoldable pub crisp : RGBA → Bool
crisp p = eqb p.a 0 || eqb p.a 255

-- all of count pixels are, from pixel `from` on
unfoldable pub all_crisp : List ℕ → ℕ → ℕ → Bool
all_crisp pixels from zero = true
all_crisp pixels from (suc n) = all_crisp pixels from n && crisp (dot_at pixels (from + n))

-- a byte s with a byte c drawn onto it at alpha a. Multiplied, it is what the six f32 operations give (colour's `multiply-byte-nearest`), and stays where c and a are 255; blended, it stays at alpha 0 and becomes c at 255
unfoldable pub drawn_byte : Bool → ℕ → ℕ → ℕ → ℕ
drawn_byte multiply s c a = if multiply then nearest (s * (c * a)) 65025 else blend_byte s c a

-- what the four bytes of a pixel are drawn with, so that none needs a rule of its own. Multiplied, the alpha byte and every byte of a clear pixel have to stay ..
unfoldable pub inks : Bool → RGBA → RGBA
inks multiply p = if multiply then (if eqb p.a 0 then white else rgba p.r p.g p.b 255) else p

-- .. and at which alphas. Blended, the alpha byte becomes 255 under an opaque pixel, and else has to stay
unfoldable pub alphas : Bool → RGBA → RGBA
alphas multiply p =
    if multiply then (let a = (if eqb p.a 0 then 255 else p.a) in rgba a a a 255)
    else rgba p.a p.a p.a (if eqb p.a 255 then 255 else 0)

-- what f makes of count pixels from pixel `from` on, at the start of l
unfoldable pub spread_on : (RGBA → RGBA) → List ℕ → ℕ → ℕ → List ℕ → List ℕ
spread_on f pixels from count l = change (within 0 count) (λ k _. f (dot_at pixels (from + k))) l
