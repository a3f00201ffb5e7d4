-- Where a line ends, by the place of its newline. Assumes nothing.
use Rattle.std.proofs.Common.{ℕ, suc, ◌≡◌, refl, sym, ◌∙◌, ap, ◌+◌, ◌-◌, ◌<◌, ◌==◌, Bool, true, false, List, [], ◌∷◌, length, drop, arith, rules}
use Rattle.std.specs.Prelude.{cond, not, nat_lt, position, Some, None, Option, take}
use Rattle.std.specs.List.{position_or_len}
use Rattle.std.proofs.lemmas.List.{take_all, length-drop}
use Rattle.std.proofs.lemmas.List.Quantifiers.{position-Some}
use Rattle.std.proofs.lemmas.Bool.{lt-ltb, le-ltb, ltb-true, ltb-false}
use Rattle.vectors.specs.Lines.{line_of, line_end}

abbrev newline : List ℕ → Option ℕ
newline = position (λ b. b == 10)

abbrev to_newline : List ℕ → ℕ
to_newline = position_or_len (λ b. b == 10)

upto : (l : List ℕ) → line_of l ≡ cond (nat_lt (to_newline l) (length l)) (to_newline l + 1) (length l)
unfolding line_of
upto [] = refl
upto (b ∷ l) = go (b == 10) _ (length l) (upto l)
  where
    more : (t : Bool) (n k : ℕ) → nat_lt n k ≡ t → nat_lt (1 + n) (suc k) ≡ t
    more true n k h = lt-ltb (1 + n) (suc k) (omega (arith, ltb-true n k h))
    more false n k h = le-ltb (1 + n) (suc k) (omega (arith, ltb-false n k h))

    past : (u : Bool) (n k : ℕ) {m : ℕ} → m ≡ cond u (n + 1) k → suc m ≡ cond u (1 + n + 1) (suc k)
    past true n k e = omega (arith, e)
    past false n k e = omega (arith, e)

    go : (t : Bool) (n k : ℕ) {m : ℕ} → m ≡ cond (nat_lt n k) (n + 1) k → cond t 1 (suc m) ≡ cond (nat_lt (cond (not t) (1 + n) 0) (suc k)) (cond (not t) (1 + n) 0 + 1) (suc k)
    go true n k e = rw (lt-ltb 0 (suc k) (omega arith))
    go false n k e = rw (more (nat_lt n k) n k refl) (past (nat_lt n k) n k e)

some : (l : List ℕ) (i : ℕ) → newline l ≡ Some i → line_of l ≡ i + 1
some l i e = go (nat_lt (to_newline l) (length l)) (to_newline l) (length l) (upto l) e
  where
    or_zero : Option ℕ → ℕ
    or_zero (Some k) = k
    or_zero None = 0

    go : (t : Bool) (k n : ℕ) {m : ℕ} → m ≡ cond t (k + 1) n → cond t (Some k) None ≡ Some i → m ≡ i + 1
    go true k n u h = omega (arith, u, ap or_zero h)
    go false k n u h = absurd (search rules)

none : (l : List ℕ) → newline l ≡ None → line_of l ≡ length l
none l e = go (nat_lt (to_newline l) (length l)) (to_newline l) (length l) (upto l) e
  where
    go : (t : Bool) (k n : ℕ) {m : ℕ} → m ≡ cond t (k + 1) n → cond t (Some k) None ≡ None → m ≡ n
    go true k n u h = absurd (search rules)
    go false k n u h = u

-- the bytes from a place on, as code takes them, are all of them
from : (s : List ℕ) (at : ℕ) → take (length s - at) (drop at s) ≡ drop at s
from s at = take_all (length s - at) (drop at s) (omega (arith, length-drop at s))

module _ (s : List ℕ) (at : ℕ) {r : Option ℕ} (e : r ≡ newline (take (length s - at) (drop at s))) where
  pub line-some : (i : ℕ) → r ≡ Some i → (at + i + 1 ≡ line_end s at) × (at + i < length s)
  unfolding line_end
  line-some i h =
      let p : newline (drop at s) ≡ Some i = ap newline (sym (from s at)) ∙ sym e ∙ h in
      (omega (arith, some (drop at s) i p), omega (arith, (position-Some (λ b. b == 10) (drop at s) i 0 p).0, length-drop at s))

  pub line-none : at < length s → r ≡ None → length s ≡ line_end s at
  unfolding line_end
  line-none k h =
      let p : newline (drop at s) ≡ None = ap newline (sym (from s at)) ∙ sym e ∙ h in omega (arith, none (drop at s) p, length-drop at s)
