-- Rows of paper below a canvas: what stays, what is new, and how they are filled. Assumes nothing.
use mathlib.Core.Path.{◌≡◌, ap, ◌∙◌}
use mathlib.Core.List.{List}
use Prim.Native.Nat.{ℕ, ◌+◌, ◌-◌, ◌*◌, ◌≤◌, ◌<◌, max}
use native.Mathlib.Nat.{mul-le-mul_left}
use native.Mathlib.Omega.{arith}
use lib.ListN.{length}
use Rattle.colour.specs.declared.RGBA.{RGBA}
use Rattle.dots.specs.Dots.{dot_at, change, within}
use Rattle.dots.proofs.Laws.{length-change, change-picked, change-kept, run_none, within-yes, within_low, within-high}
use Rattle.thermal_image.specs.Canvas.{papered}

-- more rows take no fewer dots
pub more_rows : (W : ℕ) {H H' : ℕ} → H ≤ H' → W * H ≤ W * H'
more_rows W h = mul-le-mul_left W h

module _ (W H H' : ℕ) (paper : RGBA) (l : List ℕ) where
  pub length-papered : length (papered W H H' paper l) ≡ length l
  unfolding papered
  length-papered = length-change _ _ l

  pub papered-kept : (k : ℕ) → k < W * H → dot_at (papered W H H' paper l) k ≡ dot_at l k
  unfolding papered
  papered-kept k h = change-kept _ _ l k (within_low _ _ k h)

  pub papered-past : (k : ℕ) → W * H' ≤ k → dot_at (papered W H H' paper l) k ≡ dot_at l k
  unfolding papered
  papered-past k h = change-kept _ _ l k (within-high _ _ k h)

  pub papered-new : (k : ℕ) → W * H ≤ k → k < W * H' → k * 4 + 4 ≤ length l → dot_at (papered W H H' paper l) k ≡ paper
  unfolding papered
  papered-new k a b room = change-picked _ _ l k (within-yes _ _ k a b) room

pub papered-none : (W H : ℕ) (paper : RGBA) (l : List ℕ) → l ≡ papered W H H paper l
unfolding papered
papered-none W H paper l = run_none (W * H) _ l

-- as the code fills them
pub papered-run : (W H height : ℕ) (paper : RGBA) (l : List ℕ) {tall : ℕ} {m : List ℕ} → tall ≡ max H height
    → m ≡ change (within (W * H) (W * H + (W * tall - W * H))) (λ _ _. paper) l → m ≡ papered W H (max H height) paper l
unfolding papered
papered-run W H height paper l et em =
    em ∙ rw et (ap (λ (n : ℕ). change (within (W * H) n) (λ _ _. paper) l) (omega (arith, more_rows W {H = H} {H' = max H height} (omega arith))))
