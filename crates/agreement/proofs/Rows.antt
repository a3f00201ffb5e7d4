-- Rows of a plan and rows of the canvas, as bytes. Assumes nothing.
use Prim.Native.Nat.{ℕ, ◌+◌, ◌*◌, ◌≤◌, ◌<◌}
use mathlib.Core.Path.{◌≡◌, ap, sym, ◌∙◌}
use mathlib.Core.List.{List}
use native.Mathlib.Omega.{arith}
use borrow.Author.Tests.{le-ltb}
use lib.ListN.{length, get_or, drop}
use lib.Seq.{get_or-drop}
use Rattle.numbers.specs.Numbers.{done}
use Rattle.colour.proofs.Laws.{rgba-eq}
use Rattle.dots.specs.Dots.{dot_at}
use Rattle.job.specs.Commands.{paper_width, paper_color, commands}
use Rattle.job.specs.Dropping.{most_commands, number_of, job_refusal, job_height, kept_of, job_dropped, filled_up}
use Rattle.job.proofs.Walk.{good}
use Rattle.plan.specs.Plan.{entries_of, translate_refusal, plan_of, translated}
use Rattle.rows.specs.Rows.{ink, row_written, row_given, used, plan_refusal, plan_written, plan_given, plan_rows_refusal, plan_rows_written}
use Rattle.rows.proofs.Rules.{given-row, asked-rows, firsts-all}
use Rattle.rows.proofs.Lines.{rows-dot}
use Rattle.rows.proofs.Answers.{ink-dots, row-dot}
use Rattle.refusals.specs.Refusals.{first, room_refusal}
use Rattle.thermal_image.specs.Canvas.{written}
use Rattle.runs.specs.Run.{run_refusal, run_picture, run_canvas, ran_with, ran, run_on}
use Rattle.runs.proofs.Pictures.{shown-dot}
use Rattle.agreement.specs.Agreement.{Plannable, SameRow, SameRows}
use Rattle.agreement.proofs.Pictures.{dots-agree}
use Rattle.agreement.proofs.Rules.{plan-rules}

-- a dot of what is left of a buffer
dot-drop : (l : List ℕ) (k i : ℕ) → dot_at (drop (k * 4) l) i ≡ dot_at l (k + i)
dot-drop l k i = rgba-eq (at (i * 4) (omega arith)) (at (i * 4 + 1) (omega arith)) (at (i * 4 + 2) (omega arith)) (at (i * 4 + 3) (omega arith))
  where
    at : (n : ℕ) {m : ℕ} → m ≡ k * 4 + n → get_or (drop (k * 4) l) n 0 ≡ get_or l m 0
    at n e = get_or-drop (k * 4) l n 0 ∙ ap (λ (m : ℕ). get_or l m 0) (sym e)

-- ---- a job that can be planned

module _ (s : List ℕ) (g : Plannable s) where
  job-done : job_refusal s ≡ done
  unfolding job_refusal number_of
  job-done = rw (g.is-sound, le-ltb most_commands (length (commands s)) g.few)

  translate-done : translate_refusal s ≡ done
  unfolding translate_refusal
  translate-done = rw (job-done, g.plain)

  pub translated-is : translated s ≡ record { number = done; plan = plan_of s }
  unfolding translated
  translated-is = rw translate-done

  run-done : (n : ℕ) → 4 * (paper_width s * job_height s) ≤ n → run_refusal s n ≡ done
  unfolding run_refusal first room_refusal
  run-done n r = rw (job-done, le-ltb n (4 * (paper_width s * job_height s)) r)

  pub ran-is : (n : ℕ) → 4 * (paper_width s * job_height s) ≤ n → ran s n ≡ ran_with done (run_canvas s) (job_dropped s)
  unfolding ran
  ran-is n r = rw (run-done n r)

  used_all : used (plan_of s) ≡ entries_of (paper_width s) (kept_of s)
  unfolding plan_of filled_up
  used_all = firsts-all (entries_of (paper_width s) (kept_of s)) _

  -- every row is given
  row_done : (j n : ℕ) → j < job_height s → 4 * paper_width s ≤ n → plan_refusal (plan_of s) j (length s) n ≡ done
  unfolding plan_of
  row_done j n h r =
      rw used_all
      (given-row (paper_width s) (job_height s) (length s) _ _ j n (record { good = plan-rules s g.bytes (good s job-done); below = h; room = omega arith }))

  -- and so are some rows at once
  rows-done : (top n room : ℕ) → top + n ≤ job_height s → 4 * (n * paper_width s) ≤ room → plan_rows_refusal (plan_of s) top n (length s) room ≡ done
  unfolding plan_of
  rows-done top n room h r =
      rw used_all
      (asked-rows (paper_width s) (job_height s) (length s) _ _ top n room (record { good = plan-rules s g.bytes (good s job-done); within = h; room = omega arith }))

  run-dot : (buf : List ℕ) (i j : ℕ) → i < paper_width s → j < job_height s → 4 * (paper_width s * job_height s) ≤ length buf
      → dot_at (run_on s buf) (j * paper_width s + i) ≡ run_picture s i j
  unfolding run_on written
  run-dot buf i j a h room = rw (run-done (length buf) room) (shown-dot (paper_width s) (job_height s) (run_picture s) buf (omega arith) i j a h)

  plan-rows-dot : (lines : List ℕ) (top n : ℕ) → top + n ≤ job_height s → 4 * (n * paper_width s) ≤ length lines
      → (i j : ℕ) → i < paper_width s → j < n → dot_at (plan_rows_written s (plan_of s) top n lines) (j * paper_width s + i) ≡ run_picture s i (top + j)
  unfolding plan_rows_written plan_of
  plan-rows-dot lines top n h r i j a b =
      rw (rows-done top n (length lines) h r)
      (rows-dot s (paper_width s) (paper_color s) _ top n lines i j a b (omega arith) ∙ rw used_all (dots-agree s i (top + j) a g.plain))

  pub same_rows : (buf lines : List ℕ) (top n : ℕ) → top + n ≤ job_height s → 4 * (paper_width s * job_height s) ≤ length buf → 4 * (n * paper_width s) ≤ length lines
      → SameRows (paper_width s) top n (run_on s buf) (plan_rows_refusal (plan_of s) top n (length s) (length lines)) (plan_rows_written s (plan_of s) top n lines)
  same_rows buf lines top n h room r =
      record {
        number = rows-done top n (length lines) h r;
        dot = λ i j a b. plan-rows-dot lines top n h r i j a b ∙ sym (run-dot buf i (top + j) a (omega arith) room);
      }

  module _ (buf line : List ℕ) (j : ℕ) (h : j < job_height s) (room : 4 * (paper_width s * job_height s) ≤ length buf) (r : 4 * paper_width s ≤ length line) where
    plan-dot : (i : ℕ) → i < paper_width s → dot_at (plan_written s (plan_of s) j line) i ≡ run_picture s i j
    unfolding row_written plan_of
    plan-dot i a =
        rw (row_done j (length line) h r)
        (row-dot s (paper_width s) (paper_color s) _ j line i a (omega arith) ∙ rw used_all (dots-agree s i j a g.plain))

    same-dot : (i : ℕ) → i < paper_width s → dot_at (plan_written s (plan_of s) j line) i ≡ dot_at (run_on s buf) (j * paper_width s + i)
    same-dot i a = plan-dot i a ∙ sym (run-dot buf i j a h room)

    -- the ink is that of what was written
    ink-of : (plan_given s (plan_of s) j line).ink ≡ ink (paper_width s) (plan_written s (plan_of s) j line)
    unfolding row_given row_written plan_of
    ink-of = rw (row_done j (length line) h r)

    number-of : (plan_given s (plan_of s) j line).number ≡ done
    unfolding row_given
    number-of = row_done j (length line) h r

    pub same_row : SameRow (paper_width s) j (run_on s buf) (plan_given s (plan_of s) j line) (plan_written s (plan_of s) j line)
    same_row =
        let W : ℕ = paper_width s in
        record {
          number = number-of;
          dot = same-dot;
          ink = ink-of ∙ ink-dots W _ _ (λ i a. same-dot i a ∙ sym (dot-drop (run_on s buf) (j * W) i));
        }
