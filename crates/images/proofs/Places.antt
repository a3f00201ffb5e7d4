-- Where in the data a source dot is told of. Assumes nothing.
use mathlib.Core.Path.{◌≡◌, subst}
use Prim.Native.Nat.{ℕ, ◌+◌, ◌*◌, ◌/◌, ◌≤◌, ◌<◌}
use native.Mathlib.Nat.{mul-le-mul_right, add-mul, mul_comm}
use native.Mathlib.Numerals.{add-one-le}
use native.Mathlib.Omega.{arith}
use Rattle.images.specs.declared.formats.Format.{Format}
use Rattle.images.specs.declared.formats.Format.TheVariants.{Bits, Alphas, Columns}
use Rattle.bits.specs.Bits.{row_bytes}
use Rattle.images.specs.Formats.{bytes_of}

-- the byte for column x, row y
abbrev pub place : Format → ℕ → ℕ → ℕ → ℕ → ℕ
place Bits w h x y = y * row_bytes w + x / 8
place Alphas w h x y = y * w + x
place Columns w h x y = x * row_bytes h + y / 8

-- line y, and place k of it, lie in h lines of b bytes
pub line-fits : (b h y : ℕ) → y < h → y * b + b ≤ b * h
line-fits b h y hy = omega (arith, mul-le-mul_right b (add-one-le hy), add-mul y 1 b, mul_comm b h)

in_lines : (b h y k : ℕ) → k < b → y < h → y * b + k < b * h
in_lines b h y k hk hy = omega (arith, line-fits b h y hy)

of-bits : (w x : ℕ) → x < w → x / 8 < row_bytes w
of-bits w x h = omega arith

pub in-data : (f : Format) (w h x y : ℕ) {n : ℕ} → x < w → y < h → bytes_of f w h ≤ n → place f w h x y < n
unfolding bytes_of
in-data Bits w h x y hx hy b = omega (arith, in_lines (row_bytes w) h y (x / 8) (of-bits w x hx) hy)
in-data Alphas w h x y hx hy b = omega (arith, in_lines w h y x hx hy)
in-data Columns w h x y hx hy b = omega (arith, in_lines (row_bytes h) w x (y / 8) (of-bits h y hy) hx, mul_comm w (row_bytes h))

-- the same of a format that is told
pub in_told : {f g : Format} (w h x y : ℕ) {n : ℕ} → f ≡ g → x < w → y < h → bytes_of f w h ≤ n → place g w h x y < n
in_told {f} w h x y {n} e hx hy b = subst (λ (k : Format). place k w h x y < n) e (in-data f w h x y hx hy b)

-- row y of an image of bits lies in its data
pub row-in-data : {f : Format} (w h y : ℕ) {n : ℕ} → f ≡ Bits → y < h → bytes_of f w h ≤ n → y * row_bytes w + row_bytes w ≤ n
unfolding bytes_of
row-in-data {f} w h y {n} e hy b =
    let o : row_bytes w * h ≤ n = subst (λ (k : Format). bytes_of k w h ≤ n) e b in
    omega (arith, line-fits (row_bytes w) h y hy)
