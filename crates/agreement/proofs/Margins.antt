-- A picture under a margin, and entries m rows further down. Assumes nothing.
use Prim.Native.Nat.{ℕ, ◌+◌, ◌-◌, ◌≤◌, ◌<◌}
use mathlib.Core.Path.{◌≡◌, ap, sym, ◌∙◌}
use mathlib.Core.Logic.{⊎_elim}
use mathlib.Core.List.{List}
use mathlib.Core.Bool.{and-false}
use native.Mathlib.Omega.{arith}
use borrow.Author.Tests.{lt-ltb, le-ltb}
use Rattle.colour.specs.declared.RGBA.{RGBA}
use Rattle.dots.specs.Dots.{within}
use Rattle.dots.proofs.Laws.{below, Place, before, inside, past, place, within-yes, within_low, within-high}
use Rattle.areas.specs.Areas.{in_area}
use Rattle.entries.specs.declared.Entry.{Entry}
use Rattle.entries.specs.Entries.{image_pixel, entry_pixel, entry_on}
use Rattle.plan.specs.Plan.{lower}
use Rattle.runs.specs.Pictures.{Picture, with_margin}

module _ (paper : RGBA) (p : Picture) (i : ℕ) where
  above : (m j : ℕ) → j < m → with_margin paper m p i j ≡ paper
  unfolding with_margin
  above m j h = rw (lt-ltb j m h)

  under : (m j : ℕ) → m ≤ j → with_margin paper m p i j ≡ p i (j - m)
  unfolding with_margin
  under m j h = rw (le-ltb j m h)

  pub margin-none : (j : ℕ) → with_margin paper 0 p i j ≡ p i j
  margin-none j = under 0 j (omega arith) ∙ ap (p i) (omega arith)

-- a margin and another above it
pub margin-margin : (paper : RGBA) (m n : ℕ) (p : Picture) (i j : ℕ) → with_margin paper n (with_margin paper m p) i j ≡ with_margin paper (m + n) p i j
margin-margin paper m n p i j =
    ⊎_elim
    (λ a. above paper _ i n j a ∙ sym (above paper p i (m + n) j (omega arith)))
    (λ a.
    under paper _ i n j a
    ∙ ⊎_elim
    (λ b. above paper p i m (j - n) b ∙ sym (above paper p i (m + n) j (omega arith)))
    (λ b. under paper p i m (j - n) b ∙ ap (p i) (omega arith) ∙ sym (under paper p i (m + n) j (omega arith)))
    (below (j - n) m))
    (below j n)

pub margin-paper : (paper : RGBA) (m i j : ℕ) → with_margin paper m (λ _ _. paper) i j ≡ paper
margin-paper paper m i j = ⊎_elim (λ a. above paper _ i m j a) (λ a. under paper _ i m j a) (below j m)

-- ---- an entry m rows further down

module _ (y h m j : ℕ) where
  rows_under : m ≤ j → within (y + m) (y + m + h) j ≡ within y (y + h) (j - m)
  rows_under a = by (place y (y + h) (j - m))
    where
      by : Place y (y + h) (j - m) → within (y + m) (y + m + h) j ≡ within y (y + h) (j - m)
      by (before b) = within_low _ _ _ (omega arith) ∙ sym (within_low _ _ _ b)
      by (inside b c) = within-yes _ _ _ (omega arith) (omega arith) ∙ sym (within-yes _ _ _ b c)
      by (past b c) = within-high _ _ _ (omega arith) ∙ sym (within-high _ _ _ c)

module _ (s : List ℕ) (e : Entry) (m i j : ℕ) (d : RGBA) where
  -- it draws nothing above
  lower-above : j < m → entry_on s (lower m e) i j d ≡ d
  unfolding entry_on in_area
  lower-above a = rw (within_low (e.y + m) (e.y + m + e.h) j (omega arith), and-false)

  -- and below that what the entry draws m rows higher
  lower-under : m ≤ j → entry_on s (lower m e) i j d ≡ entry_on s e i (j - m) d
  unfolding entry_on in_area entry_pixel image_pixel
  lower-under a =
      let k : j - (e.y + m) ≡ j - m - e.y = omega arith in
      rw (rows_under e.y e.h m j a, k)

-- an entry drawn on p gives q: a margin above q is one above p, and then the entry drawn that much further down
pub margin-entry : (s : List ℕ) (paper : RGBA) (m : ℕ) (e : Entry) (p q : Picture) (i : ℕ) → ((j : ℕ) → q i j ≡ entry_on s e i j (p i j))
    → (j : ℕ) → with_margin paper m q i j ≡ entry_on s (lower m e) i j (with_margin paper m p i j)
margin-entry s paper m e p q i h j =
    ⊎_elim
    (λ a. above paper q i m j a ∙ sym (lower-above s e m i j _ a ∙ above paper p i m j a))
    (λ a. under paper q i m j a ∙ h (j - m) ∙ sym (lower-under s e m i j _ a ∙ ap (entry_on s e i (j - m)) (under paper p i m j a)))
    (below j m)
