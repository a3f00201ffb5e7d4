-- Bytes that a loop writes one by one, and what they make of the dots. Assumes nothing.
use mathlib.Core.Path.{◌≡◌, refl, ap, ◌∙◌}
use mathlib.Core.Logic.{◌≢◌, ◌⊎◌, inl, inr, ⊎_elim}
use mathlib.Core.List.{List}
use Prim.Native.Nat.{ℕ, ◌+◌, ◌*◌, ◌/◌, ◌%◌, ◌≤◌, ◌<◌}
use native.Mathlib.Omega.{arith}
use lib.ListN.{length, get_or, set, length-set}
use lib.Seq.{get_or-set_same, get_or-set_other}
use Rattle.std.specs.Prelude.{if◌then◌else◌}
use Rattle.colour.specs.declared.RGBA.{RGBA}
use Rattle.dots.specs.Dots.{dot_at, chan, change, within}
use Rattle.dots.proofs.Laws.{below, byte_of, dot-of, change-ext, Place, before, inside, past, place, within-yes, within_low, within-high}

-- the bytes from lo to hi are F's, and every other is as it was
pub record Over (lo hi : ℕ) (F : ℕ → ℕ) (l m : List ℕ) : Type 0 where
  pub same : length m ≡ length l
  pub written : (i : ℕ) → lo ≤ i → i < hi → get_or m i 0 ≡ F i
  pub kept : (i : ℕ) → (i < lo) ⊎ (hi ≤ i) → get_or m i 0 ≡ get_or l i 0

pub over_none : (lo : ℕ) (F : ℕ → ℕ) (l : List ℕ) → Over lo lo F l l
over_none lo F l = record { same = refl; written = λ i h k. let z : ⊥ = omega arith in absurd z; kept = λ i h. refl }

pub over-step : (lo i : ℕ) (F : ℕ → ℕ) (l m : List ℕ) (v : ℕ) → lo ≤ i → i < length l → Over lo i F l m → v ≡ F i → Over lo (i + 1) F l (set m i v)
over-step lo i F l m v a b o e =
    record {
      same = length-set m i v ∙ o.same;
      written = λ j h k.
          ⊎_elim
          (λ w. let n : j ≢ i = λ z. omega arith in get_or-set_other m i j v 0 n ∙ o.written j h w)
          (λ w. let q : j ≡ i = omega arith in rw q (get_or-set_same m i v 0 (omega (arith, o.same)) ∙ e))
          (below j i);
      kept = λ j h.
          ⊎_elim
          (λ w. let n : j ≢ i = λ z. omega arith in get_or-set_other m i j v 0 n ∙ o.kept j (inl w))
          (λ w. let n : j ≢ i = λ z. omega arith in get_or-set_other m i j v 0 n ∙ o.kept j (inr (omega arith)))
          h;
    }

-- one more place of an array that is filled from its start
pub fill_step : (p : List ℕ) (j v : ℕ) (F : ℕ → ℕ) → j < length p → ((i : ℕ) → i < j → get_or p i 0 ≡ F i) → v ≡ F j → (i : ℕ) → i < j + 1 → get_or (set p j v) i 0 ≡ F i
fill_step p j v F b h e i k =
    ⊎_elim
    (λ w. let n : i ≢ j = λ z. omega arith in get_or-set_other p j i v 0 n ∙ h i w)
    (λ w. let q : i ≡ j = omega arith in rw q (get_or-set_same p j v 0 b ∙ e))
    (below i j)

-- the one place where bytes meet dots
pub over-change : (lo hi : ℕ) (g : ℕ → RGBA → RGBA) (l m : List ℕ) (F : ℕ → ℕ) → hi * 4 ≤ length l → Over (lo * 4) (hi * 4) F l m
    → ((i : ℕ) → lo * 4 ≤ i → i < hi * 4 → F i ≡ chan (g (i / 4) (dot_at l (i / 4))) (i % 4)) → m ≡ change (within lo hi) g l
over-change lo hi g l m F b o h =
    change-ext (within lo hi) g l m o.same (λ i c. at i (place lo hi i)) (λ i c. same i (inr (omega arith)))
  where
    same : (i : ℕ) → (i < lo) ⊎ (hi ≤ i) → dot_at m i ≡ dot_at l i
    same i w = dot-of m i (dot_at l i) (λ j k c e. o.kept j (⊎_elim (λ u. inl (omega arith)) (λ u. inr (omega arith)) w) ∙ byte_of l i j k c e)

    at : (i : ℕ) → Place lo hi i → dot_at m i ≡ (if within lo hi i then g i (dot_at l i) else dot_at l i)
    at i (before u) = rw (within_low lo hi i u) (same i (inl u))
    at i (past u v) = rw (within-high lo hi i v) (same i (inr v))
    at i (inside u v) =
        rw (within-yes lo hi i u v)
        (dot-of m i (g i (dot_at l i))
        (λ j k c e.
        o.written j (omega arith) (omega arith) ∙ h j (omega arith) (omega arith)
        ∙ ap (λ (n : ℕ). chan (g n (dot_at l n)) (j % 4)) (omega arith) ∙ ap (chan (g i (dot_at l i))) (omega arith)))
