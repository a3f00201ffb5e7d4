-- Clear and opaque pixels: how they are told, and that blended ones leave the dots that they do not cover. Assumes nothing.
use mathlib.Core.Path.{◌≡◌, refl, sym, ◌∙◌}
use mathlib.Core.Logic.{◌⊎◌, inl, inr, ⊎_elim}
use mathlib.Core.List.{List}
use mathlib.Core.Bool.{Bool, true, false, ◌&&◌, and-true, and-false, and_assoc, or-true, or-false, true≢false}
use Prim.Native.Nat.{ℕ, zero, suc, ◌+◌, ◌-◌, ◌≤◌, ◌<◌}
use native.Mathlib.Nat.{add_assoc, add-suc, add-zero}
use native.Mathlib.Numerals.{add-one}
use native.Mathlib.Omega.{arith}
use borrow.Author.Tests.{eq-eqb, ne_eqb, eqb-true}
use Rattle.colour.specs.declared.RGBA.{RGBA}
use Rattle.colour.proofs.Tests.{and_both}
use Rattle.dots.specs.Dots.{dot_at, drawn}
use Rattle.dots.proofs.Laws.{below, drawn-none}
use Rattle.pixels.specs.Steps.{crisp, all_crisp}

module _ (p : RGBA) where
  -- the answer of one pixel more
  pub translucent-more : (t : Bool) → (p.a ≡ 0 → ⊥) → (p.a ≡ 255 → ⊥) → false ≡ (t && crisp p)
  unfolding crisp
  translucent-more t n f = rw (ne_eqb p.a 0 n, ne_eqb p.a 255 f, and-false)

  pub crisp-more : (t : Bool) → (p.a ≡ 0) ⊎ (p.a ≡ 255) → t ≡ (t && crisp p)
  unfolding crisp
  crisp-more t (inl e) = rw (eq-eqb p.a 0 e, and-true)
  crisp-more t (inr e) = rw (eq-eqb p.a 255 e, or-true, and-true)

  pub crisp-leaves : (s : RGBA) → crisp p ≡ true → (p.a ≡ 255 → ⊥) → s ≡ drawn false p s
  unfolding crisp
  crisp-leaves s e n = drawn-none false p s (eqb-true p.a 0 (rw (ne_eqb p.a 255 n, or-false) at e))

-- ---- all of count pixels

module _ (pixels : List ℕ) (from : ℕ) where
  pub all-crisp-none : true ≡ all_crisp pixels from 0
  unfolding all_crisp
  all-crisp-none = refl

  pub all-crisp-next : (i : ℕ) {t u : Bool} {p : RGBA} → t ≡ all_crisp pixels from i → p ≡ dot_at pixels (from + i) → u ≡ (t && crisp p) → u ≡ all_crisp pixels from (i + 1)
  unfolding all_crisp
  all-crisp-next i et ep eu = eu ∙ rw (et, ep, add-one i) refl

  pub all-crisp-at : (n k : ℕ) → k < n → all_crisp pixels from n ≡ true → crisp (dot_at pixels (from + k)) ≡ true
  unfolding all_crisp
  all-crisp-at zero k h e = elim h [ ]
  all-crisp-at (suc n) k h e =
      let t = and_both _ _ e in
      ⊎_elim (λ w. all-crisp-at n k w t.0) (λ w. let q : k ≡ n = omega arith in rw q t.1) (below k n)

  -- those of i pixels, and then those of n more
  all-crisp-then : (i n : ℕ) → all_crisp pixels from (i + n) ≡ (all_crisp pixels from i && all_crisp pixels (from + i) n)
  unfolding all_crisp
  all-crisp-then i zero = rw (add-zero i, and-true)
  all-crisp-then i (suc n) = rw (add-suc i n, all-crisp-then i n, and_assoc, add_assoc from i n)

  pub all-crisp-part : (i n count : ℕ) → i + n ≤ count → all_crisp pixels from count ≡ true → all_crisp pixels (from + i) n ≡ true
  all-crisp-part i n count h e =
      let more : count ≡ i + n + (count - (i + n)) = omega arith in
      let all = and_both (all_crisp pixels from (i + n)) _ (sym (all-crisp-then (i + n) (count - (i + n))) ∙ rw more at e) in
      (and_both (all_crisp pixels from i) _ (sym (all-crisp-then i n) ∙ all.0)).1

  -- n more were looked at: one of them is translucent, or none is; and what the rest says
  pub all-crisp-stop : (i n count : ℕ) {t : Bool} → i + n ≤ count → t ≡ false → t ≡ all_crisp pixels (from + i) n → false ≡ all_crisp pixels from count
  all-crisp-stop i n count {t} h e et = go t (all_crisp pixels from count) e et refl
    where
      go : (t u : Bool) → t ≡ false → t ≡ all_crisp pixels (from + i) n → all_crisp pixels from count ≡ u → false ≡ u
      go true u e et f = absurd (true≢false e)
      go false true e et f = et ∙ all-crisp-part i n count h f
      go false false e et f = refl

  pub all-crisp-on : (i n : ℕ) {t : Bool} → true ≡ all_crisp pixels from i → t ≡ true → t ≡ all_crisp pixels (from + i) n → true ≡ all_crisp pixels from (i + n)
  all-crisp-on i n {t} e f et = go t f et
    where
      go : (t : Bool) → t ≡ true → t ≡ all_crisp pixels (from + i) n → true ≡ all_crisp pixels from (i + n)
      go true f et = sym (all-crisp-then i n ∙ rw (← e, ← et))
      go false f et = absurd (true≢false (sym f))

  pub all-crisp-end : (i count : ℕ) {t : Bool} → i ≤ count → true ≡ all_crisp pixels from i → t ≡ all_crisp pixels (from + i) (count - i) → t ≡ all_crisp pixels from count
  all-crisp-end i count h e et =
      let more : i + (count - i) ≡ count = omega arith in
      et ∙ rw more at (rw (← e) at (sym (all-crisp-then i (count - i))))

  -- n of them from the i-th on are multiplied at full alpha where all are
  pub full-part : (i n count : ℕ) {t f : Bool} → i + n ≤ count → (f ≡ false) ⊎ ((t ≡ true) × (all_crisp pixels from count ≡ true)) → (f ≡ false) ⊎ ((t ≡ true) × (all_crisp pixels (from + i) n ≡ true))
  full-part i n count h (inl e) = inl e
  full-part i n count h (inr (e, a)) = inr (e, all-crisp-part i n count h a)
