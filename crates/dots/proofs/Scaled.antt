-- A colour multiplied by whole numbers. Assumes nothing.
use mathlib.Core.Path.{◌≡◌, sym}
use Prim.Native.Nat.{ℕ, ◌*◌, ◌≤◌}
use native.Mathlib.Nat.{mul_assoc, mul-le-mul}
use Rattle.colour.specs.Channel.{nearest, multiply_byte}
use Rattle.colour.proofs.Laws.{multiply-byte-nearest}

pub factor-fits : (c a : ℕ) → c ≤ 255 → a ≤ 255 → c * a ≤ 65025
factor-fits c a C A = mul-le-mul C A

pub scaled : (s c a : ℕ) → s ≤ 255 → c ≤ 255 → a ≤ 255 → nearest (s * (c * a)) 65025 ≡ multiply_byte s c a
scaled s c a S C A = rw (← mul_assoc s c a) (sym (multiply-byte-nearest s c a S C A))
