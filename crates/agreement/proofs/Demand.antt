-- Demand 3 holds. Assumes nothing.
use Prim.Native.Nat.{ℕ, ◌*◌, ◌≤◌}
use mathlib.Core.Path.{◌≡◌, refl, ◌∙◌}
use mathlib.Core.List.{List}
use lib.ListN.{length}
use Rattle.std.proofs.Common.{Result}
use Rattle.numbers.specs.declared.refusal.Refusal.{Refusal}
use Rattle.numbers.specs.Numbers.{done, number}
use Rattle.job.specs.Commands.{paper_width}
use Rattle.job.specs.Dropping.{job_height, job_dropped}
use Rattle.plan.specs.declared.Plan.{Plan}
use Rattle.plan.specs.declared.Translated.{Translated}
use Rattle.plan.specs.Plan.{plan_of, translated}
use Rattle.rows.specs.declared.RowAnswer.{RowAnswer}
use Rattle.rows.specs.Rows.{plan_written, plan_given, plan_rows_refusal, plan_rows_written}
use Rattle.runs.specs.declared.Ran.{Ran}
use Rattle.runs.specs.Run.{ran, ran_with, run_canvas, run_on}
use Rattle.agreement.specs.Agreement.{Run, Translate, Row, Rows, Plannable, Same, Demand3}
use Rattle.agreement.proofs.Rows.{translated-is, ran-is, same_row, same_rows}

-- ---- what the contracts say of the calls

run_is : (s l : List ℕ) (r : Ran) (m : List ℕ) → Run s l r m → (r ≡ ran s (length l)) × (m ≡ run_on s l)
run_is s l r m c = rw (← c.given.0, ← c.given.1, ← c.left) c.kept

translate-is : (s : List ℕ) (t : Translated) → Translate s t → t ≡ translated s
translate-is s t c = rw (← c.given) c.kept

row_is : (p : Plan) (j : ℕ) (s l : List ℕ) (a : RowAnswer) (m : List ℕ) → Row p j s l a m → (a ≡ plan_given s p j l) × (m ≡ plan_written s p j l)
row_is p j s l a m c = rw (← c.given.0, ← c.given.1, ← c.given.2, ← c.given.3, ← c.left) c.kept

rows_are : (p : Plan) (first n : ℕ) (s l : List ℕ) (a : Result (Unit {0}) Refusal) (m : List ℕ) → Rows p first n s l a m
    → (number a ≡ plan_rows_refusal p first n (length s) (length l)) × (m ≡ plan_rows_written s p first n l)
rows_are p first n s l a m c = rw (← c.given.0, ← c.given.1, ← c.given.2, ← c.given.3, ← c.given.4, ← c.left) c.kept

-- ---- the run's answer and the translation's, of a job that can be planned

module _ (s l : List ℕ) (g : Plannable s) (room : 4 * (paper_width s * job_height s) ≤ length l) where
  same : Same s (ran_with done (run_canvas s) (job_dropped s)) (run_on s l) (record { number = done; plan = plan_of s })
  unfolding plan_of run_canvas
  same =
      record {
        run-done = refl;
        translate-done = refl;
        width = refl;
        height = refl;
        paper = refl;
        count = refl;
        dropped = refl;
        alone = λ j k m a h r c. let e = row_is (plan_of s) j s k a m c in rw (e.0, e.1) (same_row s g l k j h room r);
        at_once = λ first n k m a h r c. let e = rows_are (plan_of s) first n s k a m c in rw (e.0, e.1) (same_rows s g l k first n h room r);
      }

pub demand-3 : Demand3
unfolding plan_of
demand-3 s l m r t g tc rc room =
    let et : t ≡ record { number = done; plan = plan_of s } = translate-is s t tc ∙ translated-is s g in
    let e = run_is s l r m rc in
    let q : 4 * (paper_width s * job_height s) ≤ length l = rw et at room in
    rw (e.0, ran-is s g (length l) q, e.1, et) (same s l g q)
