-- The value that `multiply_channel` rounds is near s * c * a / 65025. Assumes nothing.
use Rattle.std.proofs.Common.{ℕ, ◌*◌, ◌≤◌, le_trans, mul-le-mul, lit<, lit≤}
use lib.Ieee.{binary32, mul, div}
use Rattle.colour.specs.Channel.{float, product}
use Rattle.colour.proofs.Near.{Near}
use Rattle.colour.proofs.Operations.{byte-value, near-whole, near_mul, near_div}

module _ (s c a : ℕ) (S : s ≤ 255) (C : c ≤ 255) (A : a ≤ 255) where
  full : Near (float 255) 1073741824 1073741824 255 1
  full = near-whole (float 255) 255 (byte-value 255 (lit≤ tt))

  step₁ : Near (div binary32 (float s) (float 255)) 1073741888 1073741760 s 255
  step₁ = near_div (float s) (float 255) 1073741824 1073741824 1073741888 1073741760 s 1 255 (near-whole (float s) s (byte-value s S)) (byte-value 255 (lit≤ tt)) (lit< tt) (lit< tt) (lit≤ tt) (le_trans S (lit≤ tt)) (lit≤ tt) (lit≤ tt) (lit≤ tt, lit≤ tt)

  step₂ : Near (mul binary32 (div binary32 (float s) (float 255)) (float c)) 1073741953 1073741696 (s * c) 255
  step₂ =
      near_mul (div binary32 (float s) (float 255)) (float c) 1073741888 1073741760 1073741824 1073741824 1073741888 1073741760 1073741953 1073741696 s 255 c 1 step₁ (near-whole (float c) c (byte-value c C)) (lit< tt) (lit< tt) (lit≤ tt)
      (le_trans (mul-le-mul S C) (lit≤ tt)) (lit≤ tt) (lit≤ tt) (lit≤ tt) (lit≤ tt) (lit≤ tt, lit≤ tt)

  step₃ : Near (div binary32 (mul binary32 (div binary32 (float s) (float 255)) (float c)) (float 255)) 1073742018 1073741632 (s * c) 65025
  step₃ =
      near_div (mul binary32 (div binary32 (float s) (float 255)) (float c)) (float 255) 1073741953 1073741696 1073742018 1073741632 (s * c) 255 255 step₂ (byte-value 255 (lit≤ tt)) (lit< tt) (lit< tt) (lit≤ tt)
      (le_trans (mul-le-mul S C) (lit≤ tt)) (lit≤ tt) (lit≤ tt) (lit≤ tt, lit≤ tt)

  pub alpha : Near (div binary32 (float a) (float 255)) 1073741888 1073741760 a 255
  alpha = near_div (float a) (float 255) 1073741824 1073741824 1073741888 1073741760 a 1 255 (near-whole (float a) a (byte-value a A)) (byte-value 255 (lit≤ tt)) (lit< tt) (lit< tt) (lit≤ tt) (le_trans A (lit≤ tt)) (lit≤ tt) (lit≤ tt) (lit≤ tt, lit≤ tt)

  step₄ : Near (mul binary32 (div binary32 (mul binary32 (div binary32 (float s) (float 255)) (float c)) (float 255)) (div binary32 (float a) (float 255))) 1073742148 1073741504 (s * c * a) 16581375
  step₄ =
      near_mul (div binary32 (mul binary32 (div binary32 (float s) (float 255)) (float c)) (float 255)) (div binary32 (float a) (float 255)) 1073742018 1073741632 1073741888 1073741760 1073742083 1073741568 1073742148 1073741504 (s * c) 65025 a 255 step₃ alpha (lit< tt) (lit< tt) (lit≤ tt)
      (le_trans (mul-le-mul (mul-le-mul S C) A) (lit≤ tt)) (lit≤ tt) (lit≤ tt) (lit≤ tt) (lit≤ tt) (lit≤ tt, lit≤ tt)

  pub near-product : Near (product s c a) 1073742213 1073741440 (s * c * a * 255) 16581375
  unfolding product
  near-product =
      near_mul (mul binary32 (div binary32 (mul binary32 (div binary32 (float s) (float 255)) (float c)) (float 255)) (div binary32 (float a) (float 255))) (float 255) 1073742148 1073741504 1073741824 1073741824 1073742148 1073741504 1073742213 1073741440 (s * c * a) 16581375 255 1 step₄ full (lit< tt) (lit< tt) (lit≤ tt)
      (le_trans (mul-le-mul (mul-le-mul (mul-le-mul S C) A) (lit≤ {m = 255} {n = 255} tt)) (lit≤ tt)) (lit≤ tt) (lit≤ tt) (lit≤ tt) (lit≤ tt) (lit≤ tt, lit≤ tt)
