-- What the row functions answer. Assumes nothing.
use Prim.Native.Nat.{ℕ, zero, suc, ◌*◌, ◌≤◌, ◌<◌}
use mathlib.Core.Path.{◌≡◌, refl, sym, ◌∙◌}
use mathlib.Core.List.{List, [], ◌∷◌}
use native.Mathlib.Omega.{arith}
use borrow.Author.Tests.{ne_eqb, le-ltb}
use lib.ListN.{length, get_or, length-append}
use Rattle.numbers.specs.Numbers.{done}
use Rattle.colour.specs.declared.RGBA.{RGBA}
use Rattle.dots.specs.Dots.{dot_at, within}
use Rattle.dots.proofs.Laws.{change-picked, within-yes}
use Rattle.entries.specs.declared.Entry.{Entry}
use Rattle.plan.specs.Plan.{no_entry}
use Rattle.plan.specs.declared.Plan.{Plan}
use Rattle.rows.specs.declared.RowAnswer.{RowAnswer}
use Rattle.rows.specs.Rows.{refusal_of, row_refusal, entries_on, row_on, rows_on, ink, row_written, row_given, list_written, list_given, firsts, used, plan_written, plan_given, plan_rows_refusal, plan_rows_written}

module _ (s : List ℕ) (W H : ℕ) (paper : RGBA) (count : ℕ) (es : List Entry) (row : ℕ) (l : List ℕ) {number : ℕ} (e : number ≡ row_refusal W H (length s) count es row (length l)) where
  pub row-refused : (number ≡ done → ⊥) → ◌≡◌ {A = RowAnswer} (record { number = number; ink = 0 }) (row_given s W H paper count es row l)
  unfolding row_given
  row-refused n = rw (← e, ne_eqb number done n)

  pub row_kept : (number ≡ done → ⊥) → l ≡ row_written s W H paper count es row l
  unfolding row_written
  row_kept n = rw (← e, ne_eqb number done n)

  module _ (z : number ≡ done) {m : List ℕ} (em : m ≡ row_on s W paper es row l) where
    pub row-drawn : m ≡ row_written s W H paper count es row l
    unfolding row_written
    row-drawn = em ∙ rw (← e, z)

    pub row-answered : {k : ℕ} → k ≡ ink W m → ◌≡◌ {A = RowAnswer} (record { number = done; ink = k }) (row_given s W H paper count es row l)
    unfolding row_given
    row-answered ek = rw (← e, z, ek, em)

-- ---- some rows of a plan

module _ (s : List ℕ) (p : Plan) (first n : ℕ) (l : List ℕ) {number : ℕ} (e : number ≡ plan_rows_refusal p first n (length s) (length l)) where
  pub rows-kept : (number ≡ done → ⊥) → l ≡ plan_rows_written s p first n l
  unfolding plan_rows_written
  rows-kept z = rw (← e, ne_eqb number done z)

  pub rows-drawn : number ≡ done → {m : List ℕ} → m ≡ rows_on s p.width p.paper_color (used p) first n l → m ≡ plan_rows_written s p first n l
  unfolding plan_rows_written
  rows-drawn z em = em ∙ rw (← e, z)

-- ---- a plan's row is that of a list of its first `count` entries

length-firsts : (n : ℕ) (es : List Entry) → length (firsts n es) ≡ n
unfolding firsts
length-firsts zero es = refl
length-firsts (suc n) es = length-append (firsts n es) (get_or es n no_entry ∷ []) ∙ rw (length-firsts n es) (omega arith)

pub same_answer : (s : List ℕ) (p : Plan) (row : ℕ) (l : List ℕ) → plan_given s p row l ≡ list_given s p.width p.height p.paper_color (used p) row l
same_answer s p row l = rw (length-firsts p.count p.entries)

pub same_row : (s : List ℕ) (p : Plan) (row : ℕ) (l : List ℕ) → plan_written s p row l ≡ list_written s p.width p.height p.paper_color (used p) row l
same_row s p row l = rw (length-firsts p.count p.entries)

-- ---- the ink of a row is the same in every buffer that has room for it

pub ink-dots : (n : ℕ) (l m : List ℕ) → ((i : ℕ) → i < n → dot_at l i ≡ dot_at m i) → ink n l ≡ ink n m
unfolding ink
ink-dots zero l m f = refl
ink-dots (suc n) l m f = rw (ink-dots n l m (λ i h. f i (omega arith)), f n (omega arith))

pub row-dot : (s : List ℕ) (W : ℕ) (paper : RGBA) (es : List Entry) (row : ℕ) (l : List ℕ) (i : ℕ) → i < W → W * 4 ≤ length l → dot_at (row_on s W paper es row l) i ≡ entries_on s es i row paper
unfolding row_on
row-dot s W paper es row l i h r = change-picked (within 0 W) _ l i (within-yes 0 W i (omega arith) h) (omega arith)

module _ (s : List ℕ) (W H : ℕ) (paper : RGBA) (count : ℕ) (es : List Entry) (row : ℕ) (l m : List ℕ) (hl : W * 4 ≤ length l) (hm : W * 4 ≤ length m) where
  same-refusal : row_refusal W H (length s) count es row (length l) ≡ row_refusal W H (length s) count es row (length m)
  unfolding refusal_of
  same-refusal = rw (le-ltb (length l) (4 * W) (omega arith), le-ltb (length m) (4 * W) (omega arith))

  pub same-ink : (row_given s W H paper count es row l).ink ≡ (row_given s W H paper count es row m).ink
  unfolding row_given
  same-ink = rw (same-refusal, ink-dots W (row_on s W paper es row l) (row_on s W paper es row m) (λ i h. row-dot s W paper es row l i h hl ∙ sym (row-dot s W paper es row m i h hm)))
