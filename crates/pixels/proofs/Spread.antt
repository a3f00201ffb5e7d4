-- What a step makes of pixels, spread over an array: the loop, and each byte of the array. Assumes nothing.
use mathlib.Core.Path.{◌≡◌, refl, ap, ◌∙◌}
use mathlib.Core.List.{List}
use Prim.Native.Nat.{ℕ, ◌+◌, ◌*◌, ◌/◌, ◌%◌, ◌≤◌, ◌<◌}
use native.Mathlib.Omega.{arith}
use lib.ListN.{length, get_or}
use Rattle.colour.specs.declared.RGBA.{RGBA}
use Rattle.dots.specs.Dots.{dot_at, set_dot, chan}
use Rattle.dots.proofs.Laws.{byte_of, length-change, change-picked, within-yes, run_none, run-turn}
use Rattle.pixels.specs.Steps.{spread_on}

module _ (f : RGBA → RGBA) (pixels : List ℕ) (from : ℕ) (l : List ℕ) where
  -- those of i pixels are in b
  pub record Spread (i : ℕ) (b : List ℕ) : Type 0 where
    pub same : length b ≡ length l
    pub sofar : b ≡ spread_on f pixels from i l

  pub spread-start : Spread 0 l
  unfolding spread_on
  spread-start = record { same = refl; sofar = run_none 0 _ l }

  pub spread-next : {i : ℕ} {b b' : List ℕ} {p d : RGBA} → i * 4 + 4 ≤ length l → Spread i b
      → p ≡ dot_at pixels (from + i) → d ≡ f p → b' ≡ set_dot b i d → Spread (i + 1) b'
  unfolding spread_on
  spread-next {i} h r ep ed eb =
      let sofar : _ ≡ spread_on f pixels from (i + 1) l = run-turn 0 i (λ k _. f (dot_at pixels (from + k))) l (omega arith) h r.sofar (ed ∙ ap f ep) eb in
      record { same = ap length sofar ∙ length-change _ _ l; sofar = sofar }

  -- byte j of count of them
  pub spread_at : (count : ℕ) {b : List ℕ} → count * 4 ≤ length l → b ≡ spread_on f pixels from count l
      → (j : ℕ) → j < count * 4 → get_or b j 0 ≡ chan (f (dot_at pixels (from + j / 4))) (j % 4)
  unfolding spread_on
  spread_at count {b} h e j t =
      byte_of b (j / 4) j (j % 4) (omega arith) (omega arith)
      ∙ ap (λ (d : RGBA). chan d (j % 4)) (rw e (change-picked _ _ l (j / 4) (within-yes 0 count (j / 4) (omega arith) (omega arith)) (omega arith)))
