-- Which jobs are listed, their first lines, and the ink of their rows. Assumes nothing.
use Prim.Native.Nat.{ℕ, ◌*◌, ◌≤◌, ◌<◌}
use mathlib.Core.Path.{◌≡◌, refl, ◌∙◌}
use mathlib.Core.List.{List, []}
use native.Mathlib.Omega.{arith}
use borrow.Author.Tests.{lt-ltb, le-ltb, eq-eqb, ne_eqb}
use lib.ListN.{length, replicate, length-replicate}
use Rattle.numbers.specs.Numbers.{done, bad_job}
use Rattle.colour.specs.Colour.{blank}
use Rattle.job.specs.Records.{record_at, up_to, records}
use Rattle.job.specs.Commands.{sound_records, sound, commands}
use Rattle.job.specs.Dropping.{number_of, job_refusal}
use Rattle.plan.specs.declared.Plan.{Plan}
use Rattle.plan.specs.declared.Translated.{Translated}
use Rattle.plan.specs.Plan.{plan_with, translate_refusal, translated}
use Rattle.rows.specs.Rows.{used, plan_given}
use Rattle.rows.proofs.Answers.{same-ink}
use Rattle.listing.specs.Listing.{paper_line, refused_line, most_bytes, listed, first_line, ink_of}

no_bytes : ◌≡◌ {A = Translated} (translated []) (record { number = bad_job; plan = plan_with 0 blank 0 [] [] })
unfolding translated translate_refusal job_refusal number_of sound sound_records records up_to record_at commands
no_bytes = refl

module _ (s : List ℕ) {t : Translated} where
  pub listed-long : most_bytes < length s → t ≡ translated [] → t ≡ listed s
  unfolding listed
  listed-long h e = e ∙ rw (lt-ltb most_bytes (length s) h) no_bytes

  pub listed-short : length s ≤ most_bytes → t ≡ translated s → t ≡ listed s
  unfolding listed
  listed-short h e = e ∙ rw (le-ltb most_bytes (length s) h)

pub first-refused : (t : Translated) → (t.number ≡ done → ⊥) → first_line t ≡ refused_line t.number
unfolding first_line
first-refused t h = rw (ne_eqb t.number done h)

pub first-paper : (t : Translated) → t.number ≡ done → first_line t ≡ paper_line t.plan.width t.plan.height t.plan.dropped_count
unfolding first_line
first-paper t h = rw (eq-eqb t.number done h)

pub row-ink : (s : List ℕ) (p : Plan) (row : ℕ) (l : List ℕ) → p.width * 4 ≤ length l → (plan_given s p row l).ink ≡ ink_of s p row
unfolding ink_of
row-ink s p row l h = same-ink s p.width p.height p.paper_color p.count (used p) row l (replicate (4 * p.width) 0) h (omega (arith, length-replicate {A = ℕ} (4 * p.width) 0))
