-- The entries of the commands kept so far, one command more; and lists in a plan's record. Assumes nothing.
use Prim.Native.Nat.{ℕ, zero, suc, ◌+◌, ◌≤◌, ◌<◌, max}
use mathlib.Core.Path.{◌≡◌, refl, ap, sym, ◌∙◌}
use mathlib.Core.List.{List, [], ◌∷◌, ◌++◌}
use native.Mathlib.Nat.{add_assoc, add-zero, le_of_suc-le-suc, not-suc-le-zero}
use native.Mathlib.Omega.{arith}
use lib.ListN.{length, get_or, set, length-append}
use Rattle.colour.specs.declared.RGBA.{RGBA}
use Rattle.job.specs.declared.dropping.Dropped.{Dropped}
use Rattle.job.specs.declared.commands.Command.{Command}
use Rattle.job.specs.declared.commands.Command.TheVariants.{Rectangle, Image, Margin, Flip}
use Rattle.job.specs.Dropping.{no_dropped, filled_up}
use Rattle.job.proofs.Folds.{filled_more}
use Rattle.entries.specs.declared.Entry.{Entry}
use Rattle.plan.specs.Plan.{lower, margins, entries_of, no_entry, plan_with}
use Rattle.plan.specs.Steps.{lowered_entries, pushed, shifted, left_out}

-- ---- one command more

pub lower-none : (e : Entry) → lower 0 e ≡ e
lower-none e = rw (add-zero e.y) refl

unfoldable pub down : ℕ → List Entry → List Entry
down m [] = []
down m (e ∷ es) = lower m e ∷ down m es

margins-more : (ks : List Command) (c : Command) → margins (ks ++ (c ∷ [])) ≡ margins ks + margins (c ∷ [])
unfolding margins
margins-more [] c = omega arith
margins-more (Rectangle x y w h d mode ∷ ks) c = margins-more ks c
margins-more (Image x y w h sx sy d mode start size ∷ ks) c = margins-more ks c
margins-more (Margin m ∷ ks) c = ap (λ (n : ℕ). m + n) (margins-more ks c) ∙ sym (add_assoc m (margins ks) (margins (c ∷ [])))
margins-more (Flip x y w h ∷ ks) c = margins-more ks c

-- a rectangle or an image has its entry at the end
pub entries-more : (W : ℕ) (ks : List Command) (c : Command) (n : Entry) → margins (c ∷ []) ≡ 0 → entries_of W (c ∷ []) ≡ n ∷ [] → entries_of W (ks ++ (c ∷ [])) ≡ entries_of W ks ++ (n ∷ [])
unfolding entries_of
entries-more W [] c n z e = e
entries-more W (Rectangle x y w h d mode ∷ ks) c n z e = rw (margins-more ks c, z, add-zero (margins ks), entries-more W ks c n z e)
entries-more W (Image x y w h sx sy d mode start size ∷ ks) c n z e = rw (margins-more ks c, z, add-zero (margins ks), entries-more W ks c n z e)
entries-more W (Margin m ∷ ks) c n z e = entries-more W ks c n z e
entries-more W (Flip x y w h ∷ ks) c n z e = entries-more W ks c n z e

-- a margin moves them all
pub entries-margin : (W : ℕ) (ks : List Command) (m : ℕ) → entries_of W (ks ++ (Margin m ∷ [])) ≡ down m (entries_of W ks)
unfolding entries_of down margins
entries-margin W [] m = refl
entries-margin W (Rectangle x y w h d mode ∷ ks) m = rw (margins-more ks (Margin m), entries-margin W ks m, add-zero m, ← add_assoc _ (margins ks) m)
entries-margin W (Image x y w h sx sy d mode start size ∷ ks) m = rw (margins-more ks (Margin m), entries-margin W ks m, add-zero m, ← add_assoc _ (margins ks) m)
entries-margin W (Margin n ∷ ks) m = entries-margin W ks m
entries-margin W (Flip x y w h ∷ ks) m = entries-margin W ks m

-- there are no more entries than commands
pub entries-few : (W : ℕ) (ks : List Command) → length (entries_of W ks) ≤ length ks
unfolding entries_of
entries-few W [] = omega arith
entries-few W (Rectangle x y w h d mode ∷ ks) = omega (arith, entries-few W ks)
entries-few W (Image x y w h sx sy d mode start size ∷ ks) = omega (arith, entries-few W ks)
entries-few W (Margin m ∷ ks) = omega (arith, entries-few W ks)
entries-few W (Flip x y w h ∷ ks) = omega (arith, entries-few W ks)

-- ---- no entry starts below the height

pub data Low (H : ℕ) : List Entry → Type 0 where
  low-none : Low H []
  low-more : {e : Entry} {es : List Entry} → e.y ≤ H → Low H es → Low H (e ∷ es)

pub low-get : {H : ℕ} {es : List Entry} → Low H es → (fs : List Entry) (i : ℕ) → i < length es → (get_or (es ++ fs) i no_entry).y ≤ H
low-get low-none fs i h = absurd (not-suc-le-zero h)
low-get (low-more a l) fs zero h = a
low-get (low-more a l) fs (suc i) h = low-get l fs i (le_of_suc-le-suc h)

pub low-push : {H H' : ℕ} {es : List Entry} → Low H es → H ≤ H' → (e : Entry) → e.y ≤ H' → Low H' (es ++ (e ∷ []))
low-push low-none u e a = low-more {e = e} a low-none
low-push (low-more {e = f} b l) u e a = low-more {e = f} (omega arith) (low-push l u e a)

pub low-down : {H : ℕ} (m : ℕ) {es : List Entry} → Low H es → Low (H + m) (down m es)
unfolding down
low-down m low-none = low-none
low-down m (low-more {e = e} b l) = low-more {e = lower m e} (omega arith) (low-down m l)

-- ---- the lists in the record

pub length-down : (m : ℕ) (es : List Entry) → length (down m es) ≡ length es
unfolding down
length-down m [] = refl
length-down m (e ∷ es) = ap suc (length-down m es)

lowered-down : (m : ℕ) (es fs : List Entry) → lowered_entries m (length es) (es ++ fs) ≡ down m es ++ fs
unfolding lowered_entries down
lowered-down m [] fs = refl
lowered-down m (e ∷ es) fs = ap (λ (l : List Entry). lower m e ∷ l) (lowered-down m es fs)

module _ (W : ℕ) (paper : RGBA) (H : ℕ) (es : List Entry) (ds : List Dropped) where
  pub push-with : (e : Entry) → length es < 64 → pushed (plan_with W paper H es ds) e ≡ plan_with W paper (max H (e.y + e.h)) (es ++ (e ∷ [])) ds
  push-with e h = rw (filled_more no_entry e es h, ← length-append es (e ∷ [])) refl

  pub drop-with : (k why : ℕ) → length ds < 64 → left_out (plan_with W paper H es ds) k why ≡ plan_with W paper H es (ds ++ (record { place = k; reason = why } ∷ []))
  drop-with k why h = rw (filled_more no_dropped (record { place = k; reason = why }) ds h, ← length-append ds (record { place = k; reason = why } ∷ [])) refl

  pub shift-with : (m : ℕ) → shifted (plan_with W paper H es ds) m ≡ plan_with W paper (H + m) (down m es) ds
  unfolding filled_up
  shift-with m = rw (lowered-down m es, length-down m es)

-- ---- entries moved down, one by one

pub get_or-lowered : (m i : ℕ) (es : List Entry) → get_or (lowered_entries m i es) i no_entry ≡ get_or es i no_entry
unfolding lowered_entries
get_or-lowered m zero es = refl
get_or-lowered m (suc i) [] = refl
get_or-lowered m (suc i) (e ∷ es) = get_or-lowered m i es

pub set-lowered : (m i : ℕ) (es : List Entry) → set (lowered_entries m i es) i (lower m (get_or (lowered_entries m i es) i no_entry)) ≡ lowered_entries m (suc i) es
unfolding lowered_entries
set-lowered m zero [] = refl
set-lowered m zero (e ∷ es) = refl
set-lowered m (suc i) [] = refl
set-lowered m (suc i) (e ∷ es) = ap (λ (l : List Entry). lower m e ∷ l) (set-lowered m i es)
