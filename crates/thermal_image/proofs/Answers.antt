-- What an entry's definitions come to, refused and done. `number` is the number that the code worked out, k the one that 01 gives. Assumes nothing.
use mathlib.Core.Path.{◌≡◌, ◌∙◌}
use mathlib.Core.List.{List}
use Prim.Native.Nat.{ℕ}
use borrow.Author.Tests.{ne_eqb}
use Rattle.numbers.specs.Numbers.{done}
use Rattle.thermal_image.specs.declared.ThermalImage.{ThermalImage}
use Rattle.thermal_image.specs.declared.Answer.{Answer}
use Rattle.thermal_image.specs.Canvas.{sized, finished, answered, written, copy_answer, rgb_answer}

module _ {number k : ℕ} (e : number ≡ k) where
  pub refused : (t next : ThermalImage) → (number ≡ done → ⊥) → record { number = number; image = t } ≡ answered k t next
  unfolding answered
  refused t next n = rw (← e, ne_eqb number done n)

  pub did : (t next : ThermalImage) → number ≡ done → {r : Answer} → r ≡ finished next → r ≡ answered k t next
  unfolding answered
  did t next n er = er ∙ rw (← e, n)

  pub kept : (l next : List ℕ) → (number ≡ done → ⊥) → l ≡ written k l next
  unfolding written
  kept l next n = rw (← e, ne_eqb number done n)

  pub changed : (l next : List ℕ) → number ≡ done → {m : List ℕ} → m ≡ next → m ≡ written k l next
  unfolding written
  changed l next n em = em ∙ rw (← e, n)

  pub copy-refused : (t : ThermalImage) → (number ≡ done → ⊥) → record { number = number; width = 0; height = 0 } ≡ copy_answer k t
  unfolding copy_answer
  copy-refused t n = rw (← e, ne_eqb number done n)

  pub copy-did : (t : ThermalImage) → number ≡ done → record { number = done; width = t.width; height = t.height } ≡ copy_answer k t
  unfolding copy_answer
  copy-did t n = rw (← e, n)

  pub rgb-refused : (t : ThermalImage) → (number ≡ done → ⊥) → record { number = number; image = t; width = 0; height = 0 } ≡ rgb_answer k t
  unfolding rgb_answer
  rgb-refused t n = rw (← e, ne_eqb number done n)

  pub rgb-did : (t : ThermalImage) → number ≡ done → {a : Answer} → a ≡ finished (sized t 0 0)
      → record { number = done; image = a.image; width = t.width; height = t.height } ≡ rgb_answer k t
  unfolding rgb_answer
  rgb-did t n ea = rw (ea, ← e, n)
