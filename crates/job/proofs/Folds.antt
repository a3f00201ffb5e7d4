-- Laws of heights, kept commands and dropped lists, command by command. Assumes nothing.
use Prim.Native.Nat.{ℕ, suc, ◌+◌, ◌-◌, ◌≤◌, ◌<◌}
use mathlib.Core.Path.{◌≡◌, refl, sym, ◌∙◌}
use mathlib.Core.List.{List, [], ◌∷◌, ◌++◌}
use mathlib.Core.Bool.{Bool, true, false}
use native.Mathlib.Omega.{arith}
use borrow.Author.Tests.{eq-eqb, ne_eqb, eqb-true}
use lib.ListN.{length, set, replicate, length-append}
use lib.Seq.{set-append_seam, append_snoc}
use Rattle.numbers.specs.Numbers.{limit, done}
use Rattle.std.specs.Prelude.{if◌then◌else◌}
use Rattle.job.specs.declared.commands.Command.{Command}
use Rattle.job.specs.declared.commands.Command.TheVariants.{Rectangle, Image, Margin, Flip}
use Rattle.job.specs.Dropping.{most_commands, reason_of, height_after, kept, next_height, height_from, kept_from, dropped_from, filled_up}
use Rattle.job.proofs.Reasons.{after-fits}

-- ---- one command, kept or dropped

module _ (W H : ℕ) (c : Command) (cs : List Command) where
  module _ (e : reason_of W H c ≡ done) where
    pub height-kept : height_from W H (c ∷ cs) ≡ height_from W (height_after H c) cs
    unfolding height_from next_height
    height-kept = rw (eq-eqb (reason_of W H c) done e)

    pub kept-kept : kept_from W H (c ∷ cs) ≡ c ∷ kept_from W (height_after H c) cs
    unfolding kept_from next_height
    kept-kept = rw (eq-eqb (reason_of W H c) done e)

    pub dropped-kept : (k : ℕ) → dropped_from W H k (c ∷ cs) ≡ dropped_from W (height_after H c) (k + 1) cs
    unfolding dropped_from next_height
    dropped-kept k = rw (eq-eqb (reason_of W H c) done e)

  module _ (e : reason_of W H c ≡ done → ⊥) where
    pub height-dropped : height_from W H (c ∷ cs) ≡ height_from W H cs
    unfolding height_from next_height
    height-dropped = rw (ne_eqb (reason_of W H c) done e)

    pub kept-dropped : kept_from W H (c ∷ cs) ≡ kept_from W H cs
    unfolding kept_from next_height
    kept-dropped = rw (ne_eqb (reason_of W H c) done e)

    pub dropped-dropped : (k : ℕ) → dropped_from W H k (c ∷ cs) ≡ record { place = k; reason = reason_of W H c } ∷ dropped_from W H (k + 1) cs
    unfolding dropped_from next_height
    dropped-dropped k = rw (ne_eqb (reason_of W H c) done e)

-- ---- the folds as one view: commands cs, from height H on, of which ks are kept, and the height becomes H'

pub data Keeps (W : ℕ) : ℕ → List Command → List Command → ℕ → Type 0 where
  none : {H : ℕ} → Keeps W H [] [] H
  keep : {H H' : ℕ} {c : Command} {cs ks : List Command} → reason_of W H c ≡ done → Keeps W (height_after H c) cs ks H' → Keeps W H (c ∷ cs) (c ∷ ks) H'
  drop : {H H' : ℕ} {c : Command} {cs ks : List Command} → Keeps W H cs ks H' → Keeps W H (c ∷ cs) ks H'

keeps-step : (W H : ℕ) (c : Command) (cs : List Command) (t : Bool) → kept W H c ≡ t → ((H : ℕ) → Keeps W H cs (kept_from W H cs) (height_from W H cs))
    → Keeps W H (c ∷ cs) (if t then c ∷ kept_from W (if t then height_after H c else H) cs else kept_from W (if t then height_after H c else H) cs) (height_from W (if t then height_after H c else H) cs)
keeps-step W H c cs true e f = keep (eqb-true _ _ e) (f (height_after H c))
keeps-step W H c cs false e f = drop (f H)

pub keeps : (W H : ℕ) (cs : List Command) → Keeps W H cs (kept_from W H cs) (height_from W H cs)
unfolding kept_from height_from next_height
keeps W H [] = none
keeps W H (c ∷ cs) = keeps-step W H c cs (kept W H c) refl (λ H'. keeps W H' cs)

pub keeps-fits : {W H H' : ℕ} {cs ks : List Command} → Keeps W H cs ks H' → H ≤ limit → H' ≤ limit
keeps-fits none h = h
keeps-fits {W} {H} (keep {c = c} e r) h = keeps-fits r (after-fits W H c e)
keeps-fits (drop r) h = keeps-fits r h

-- ---- heights only grow

after_more : (H : ℕ) (c : Command) → H ≤ height_after H c
unfolding height_after
after_more H (Rectangle x y w h c mode) = omega arith
after_more H (Image x y w h sx sy c mode start size) = omega arith
after_more H (Margin m) = omega arith
after_more H (Flip x y w h) = omega arith

pub keeps-more : {W H H' : ℕ} {cs ks : List Command} → Keeps W H cs ks H' → H ≤ H'
keeps-more none = omega arith
keeps-more {H = H} (keep {c = c} e r) = omega (arith, after_more H c, keeps-more r)
keeps-more (drop r) = keeps-more r

pub height-more : (W H : ℕ) (cs : List Command) → H ≤ height_from W H cs
height-more W H cs = keeps-more (keeps W H cs)

-- ---- a list in a record, one more

pub filled_more : {A : Type 0} (z a : A) (l : List A) → length l < most_commands → set (filled_up z l) (length l) a ≡ filled_up z (l ++ (a ∷ []))
unfolding filled_up
filled_more z a l h =
    let n : ℕ = most_commands - length (l ++ (a ∷ [])) in
    let e : most_commands - length l ≡ suc n = omega (arith, length-append l (a ∷ [])) in
    rw e (set-append_seam l z (replicate n z) a ∙ sym (append_snoc l a (replicate n z)))
