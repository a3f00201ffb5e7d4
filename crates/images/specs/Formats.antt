-- What the data of an image say: the alpha of each source dot, and how many bytes that takes. 01, "Decoding".
use Rattle.std.specs.Prelude.{ℕ, ◌+◌, ◌*◌, Bool, true, false, List, get_or}
use Rattle.bits.specs.Bits.{row_bytes, bit_alpha}
use Rattle.images.specs.declared.formats.Format.{Format}
use Rattle.images.specs.declared.formats.Format.TheVariants.{Bits, Alphas, Columns}

-- the alpha of the dot at column x, row y of a w by h image. In bit rows the spare low bits of a row's last byte are no dot's; a column image has a column at a time, and dot (x, y) is bit y of column x
unfoldable pub alpha_of : Format → List ℕ → ℕ → ℕ → ℕ → ℕ → ℕ
alpha_of Bits bytes w h x y = bit_alpha bytes (y * row_bytes w) x
alpha_of Alphas bytes w h x y = get_or bytes (y * w + x) 0
alpha_of Columns bytes w h x y = bit_alpha bytes (x * row_bytes h) y

-- exactly so many bytes
unfoldable pub bytes_of : Format → ℕ → ℕ → ℕ
bytes_of Bits w h = row_bytes w * h
bytes_of Alphas w h = w * h
bytes_of Columns w h = w * row_bytes h

-- raster data, as bits or as alphas
abbrev pub raster_of : Bool → Format
raster_of true = Bits
raster_of false = Alphas
