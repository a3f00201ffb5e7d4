-- What the functions of a translation answer. Assumes nothing.
use Prim.Native.Nat.{ℕ, ◌+◌, ◌*◌, ◌≤◌, max}
use mathlib.Core.Path.{◌≡◌, refl, sym, ◌∙◌}
use mathlib.Core.List.{List, []}
use mathlib.Core.Bool.{true, false}
use native.Mathlib.Numerals.{add-one}
use borrow.Author.Tests.{eq-eqb, ne_eqb}
use lib.ListN.{get_or, set}
use Rattle.numbers.specs.Numbers.{done, not_translated}
use Rattle.colour.specs.Colour.{blank}
use Rattle.colour.specs.declared.RGBA.{RGBA}
use Rattle.images.specs.Stretching.{factor}
use Rattle.job.specs.declared.commands.Command.{Command}
use Rattle.job.specs.declared.commands.Command.TheVariants.{Rectangle, Image, Flip}
use Rattle.job.specs.Commands.{commands}
use Rattle.job.specs.Dropping.{reason_of, job_refusal}
use Rattle.entries.specs.declared.Entry.{Entry}
use Rattle.plan.specs.declared.Plan.{Plan}
use Rattle.plan.specs.declared.Translated.{Translated}
use Rattle.entries.specs.Entries.{rectangle_entry, image_entry}
use Rattle.plan.specs.Plan.{lower, no_entry, plan_with, plan_of, has_flip, translate_refusal, translated}
use Rattle.plan.specs.Steps.{lowered_entries, with_entries, pushed, left_out, planned, stepped}
use Rattle.plan.proofs.Listed.{set-lowered}

-- ---- an entry pushed

pub pushed-high : (p : Plan) (e : Entry) {height : ℕ} → height ≡ max p.height (e.y + e.h)
    → with_entries p height (p.count + 1) (set p.entries p.count e) ≡ pushed p e
pushed-high p e q = rw q refl

module _ (p : Plan) {r : Plan} {e : Entry} (g : r ≡ pushed p e) where
  pub rectangle-planned : (x y w h : ℕ) (c : RGBA) (m : ℕ) → e ≡ rectangle_entry p.width x y w h c m → r ≡ planned p (Rectangle x y w h c m)
  unfolding planned
  rectangle-planned x y w h c m q = g ∙ rw q refl

  pub image-planned : (x y w h sx sy : ℕ) (c : RGBA) (m start size : ℕ) → e ≡ image_entry p.width x y w h (factor sx) (factor sy) c m start
      → r ≡ planned p (Image x y w h sx sy c m start size)
  unfolding planned
  image-planned x y w h sx sy c m start size q = g ∙ rw q refl

-- an entry ends where its command does
pub rectangle-end : (W x y w h : ℕ) (c : RGBA) (m : ℕ) {b : ℕ} {e : Entry} → e ≡ rectangle_entry W x y w h c m → y + h ≤ b → e.y + e.h ≤ b
unfolding rectangle_entry
rectangle-end W x y w h c m q l = rw q l

pub image-end : (W x y w h fx fy : ℕ) (c : RGBA) (m start : ℕ) {b : ℕ} {e : Entry} → e ≡ image_entry W x y w h fx fy c m start → y + h * fy ≤ b → e.y + e.h ≤ b
unfolding image_entry
image-end W x y w h fx fy c m start q l = rw q l

-- ---- entries moved down

pub lower-step : {p : Plan} (p₀ : Plan) (h n m i : ℕ) → p ≡ with_entries p₀ h n (lowered_entries m i p₀.entries)
    → with_entries p p.height p.count (set p.entries i (lower m (get_or p.entries i no_entry))) ≡ with_entries p₀ h n (lowered_entries m (i + 1) p₀.entries)
lower-step {p} p₀ h n m i e = rw (e, add-one, ← set-lowered m i p₀.entries) refl

-- ---- a step

module _ (p : Plan) (k : ℕ) (d : Command) {why : ℕ} (e : why ≡ reason_of p.width p.height d) where
  pub step-out : (why ≡ done → ⊥) → {r : Plan} → r ≡ left_out p k why → r ≡ stepped p k d
  unfolding stepped
  step-out n g = g ∙ rw (ne_eqb (reason_of p.width p.height d) done (λ z. n (e ∙ z)), e)

  pub step_in : why ≡ done → {r : Plan} {d' : Command} → d ≡ d' → r ≡ planned p d' → r ≡ stepped p k d
  unfolding stepped
  step_in z q g = g ∙ rw (eq-eqb (reason_of p.width p.height d) done (sym e ∙ z), q)

  pub step-flip : why ≡ done → {x y w h : ℕ} → d ≡ Flip x y w h → p ≡ stepped p k d
  unfolding stepped planned
  step-flip z q = rw (eq-eqb (reason_of p.width p.height d) done (sym e ∙ z), q)

  pub kept_of : why ≡ done → reason_of p.width p.height d ≡ done
  kept_of z = sym e ∙ z

-- ---- the answer of a translation

module _ (s : List ℕ) {number : ℕ} (e : number ≡ job_refusal s) where
  pub refused-job : (number ≡ done → ⊥) → {p : Plan} → p ≡ plan_with 0 blank 0 [] [] → ◌≡◌ {A = Translated} (record { number = number; plan = p }) (translated s)
  unfolding translated translate_refusal
  refused-job n q = rw (q, ← e, ne_eqb number done n, ne_eqb number done n)

  pub refused-flip : number ≡ done → true ≡ has_flip (commands s) → {p : Plan} → p ≡ plan_with 0 blank 0 [] [] → ◌≡◌ {A = Translated} (record { number = not_translated; plan = p }) (translated s)
  unfolding translated translate_refusal
  refused-flip z h q = rw (q, ← e, z, ← h)

  pub given-plan : number ≡ done → false ≡ has_flip (commands s) → {p : Plan} → p ≡ plan_of s → ◌≡◌ {A = Translated} (record { number = done; plan = p }) (translated s)
  unfolding translated translate_refusal
  given-plan z h q = rw (q, ← e, z, ← h)

pub plan-with : {p : Plan} {w v : ℕ} {c b : RGBA} → w ≡ v → c ≡ b → p ≡ plan_with w c 0 [] [] → p ≡ plan_with v b 0 [] []
plan-with e f g = g ∙ rw (e, f)
