-- Demand 3: running a job and planning it agree. What is claimed, about any answers that the contracts of `run`, `translate`, `row` and `rows` allow.
use Rattle.std.specs.Prelude.{ℕ, ◌+◌, ◌*◌, ◌≤◌, ◌<◌, ◌≡◌, List, Result, true, false, length, drop}
use Rattle.numbers.specs.declared.refusal.Refusal.{Refusal}
use Rattle.numbers.specs.Numbers.{done, number}
use Rattle.dots.specs.Dots.{dot_at}
use Rattle.job.specs.Commands.{sound, commands}
use Rattle.job.specs.Dropping.{most_commands}
use Rattle.plan.specs.declared.Plan.{Plan}
use Rattle.plan.specs.declared.Translated.{Translated}
use Rattle.plan.specs.Plan.{has_flip}
use Rattle.plan.proofs.translate.Reads as translate
use Rattle.rows.specs.declared.RowAnswer.{RowAnswer}
use Rattle.rows.specs.Rows.{ink}
use Rattle.rows.proofs.row.Reads as row
use Rattle.rows.proofs.rows.Reads as rows
use Rattle.runs.specs.declared.Ran.{Ran}
use Rattle.runs.proofs.run.Reads as run
use Rattle.job.specs.Records.{Bytes}

-- ---- calls of the shipped functions. All that is known of a call is that it keeps the contract, `F.Reads.Post`, which the checker reads off the source of F

-- a call that answers r: its arguments are as `such` says, and at its return they are as `leaves` says
pub record Call {K : Type 0} {A E : K → Type 0} {R : Type 0} (contract : (k : K) → A k → R → E k → Type 0) (such : (k : K) → A k → Type 0) (leaves : (k : K) → E k → Type 0) (r : R) : Type 0 where
  pub lifetimes : K
  pub arguments : A lifetimes
  pub at_return : E lifetimes
  pub kept : contract lifetimes arguments r at_return
  pub given : such lifetimes arguments
  pub left : leaves lifetimes at_return

-- let r = run(s, buf); `before` and `after` are the bytes of buf before and after the call. Arguments and what is left of them are nested pairs: the first is `.0`, the second `.1 .0`, the third `.1 .1 .0`
abbrev pub Run : List ℕ → List ℕ → Ran → List ℕ → Type 0
Run s before r after = Call run.Post (λ k a. (a.0.now ≡ s) × (a.1.0.now ≡ before)) (λ k e. e.1.0.now ≡ after) r

-- let t = translate(s)
abbrev pub Translate : List ℕ → Translated → Type 0
Translate s t = Call translate.Post (λ k a. a.0.now ≡ s) (λ k e. Unit {0}) t

-- let r = row(plan, j, s, line), with the bytes of line before and after
abbrev pub Row : Plan → ℕ → List ℕ → List ℕ → RowAnswer → List ℕ → Type 0
Row plan j s before r after =
    Call row.Post (λ k a. (a.0 ≡ plan) × (a.1.0 ≡ j) × (a.1.1.0.now ≡ s) × (a.1.1.1.0.now ≡ before)) (λ k e. e.1.1.1.0.now ≡ after) r

-- let r = rows(plan, first, n, s, buf), with the bytes of buf before and after
abbrev pub Rows : Plan → ℕ → ℕ → List ℕ → List ℕ → Result (Unit {0}) Refusal → List ℕ → Type 0
Rows plan first n s before r after =
    Call rows.Post
    (λ k a. (a.0 ≡ plan) × (a.1.0 ≡ first) × (a.1.1.0 ≡ n) × (a.1.1.1.0.now ≡ s) × (a.1.1.1.1.0.now ≡ before))
    (λ k e. e.1.1.1.1.0.now ≡ after) r

-- ---- what is claimed

-- a sound job of at most 64 commands without flips
pub record Plannable (s : List ℕ) : Type 0 where
  pub bytes : Bytes s
  pub is-sound : sound s ≡ true
  pub few : length (commands s) ≤ most_commands
  pub plain : has_flip (commands s) ≡ false

-- what `row` answers and leaves in its buffer, beside row j of a canvas W dots wide
pub record SameRow (W j : ℕ) (canvas : List ℕ) (r : RowAnswer) (line : List ℕ) : Type 0 where
  pub number : r.number ≡ done
  -- the four bytes of column i
  pub dot : (i : ℕ) → i < W → dot_at line i ≡ dot_at canvas (j * W + i)
  -- the count over the canvas's row
  pub ink : r.ink ≡ ink W (drop (j * W * 4) canvas)

-- what `rows` answers and leaves in its buffer, beside the n rows from row `first` on of a canvas W dots wide
pub record SameRows (W first n : ℕ) (canvas : List ℕ) (r : ℕ) (lines : List ℕ) : Type 0 where
  pub number : r ≡ done
  -- the four bytes of column i of row first + j
  pub dot : (i j : ℕ) → i < W → j < n → dot_at lines (j * W + i) ≡ dot_at canvas ((first + j) * W + i)

-- what `run` answers and leaves in its buffer, beside what `translate` answers
pub record Same (s : List ℕ) (r : Ran) (canvas : List ℕ) (t : Translated) : Type 0 where
  pub run-done : r.number ≡ done
  pub translate-done : t.number ≡ done
  pub width : r.image.width ≡ t.plan.width
  pub height : r.image.height ≡ t.plan.height
  pub paper : r.image.paper_color ≡ t.plan.paper_color
  pub count : r.dropped_count ≡ t.plan.dropped_count
  pub dropped : r.dropped ≡ t.plan.dropped
  -- each row alone, so that rows may be asked for in any order
  pub alone : (j : ℕ) (before line : List ℕ) (a : RowAnswer) → j < t.plan.height → 4 * t.plan.width ≤ length before
      → Row t.plan j s before a line → SameRow t.plan.width j canvas a line
  -- some rows at once
  pub at_once : (first n : ℕ) (before lines : List ℕ) (a : Result (Unit {0}) Refusal) → first + n ≤ t.plan.height → 4 * (n * t.plan.width) ≤ length before
      → Rows t.plan first n s before a lines → SameRows t.plan.width first n canvas (number a) lines

-- for every such job and every canvas buffer with room for the plan's height
abbrev pub Demand3 : Type 0
Demand3 =
    (s before canvas : List ℕ) (r : Ran) (t : Translated) → Plannable s → Translate s t → Run s before r canvas
    → 4 * (t.plan.width * t.plan.height) ≤ length before → Same s r canvas t
