-- A lent list's row, entry by entry: judged one after the other, drawn one after the other, and at the end the
-- row that the contract tells. The loops are those of rows: `judged-all` says that its verdict on the entries is that
-- of these turns, and `all-turns` that the row it gives is theirs. Assumes nothing.
use Prim.Native.Nat.{ℕ, zero, suc, ◌+◌, ◌*◌, ◌≤◌, ◌<◌}
use mathlib.Core.Path.{◌≡◌, refl, ap, sym, ◌∙◌}
use mathlib.Core.Bool.{Bool, true, false, ◌&&◌}
use mathlib.Core.List.{List, []}
use native.Mathlib.Nat.{zero-add, le_refl}
use native.Mathlib.Numerals.{add-one}
use native.Mathlib.Omega.{arith}
use borrow.Author.Tests.{eq-eqb, ne_eqb, eqb-true, eqb-false}
use lib.ListN.{length, get_or, take}
use lib.Seq.{take-suc, take-length}
use lib.Dec.{eqb}
use Rattle.numbers.specs.Numbers.{limit, done}
use Rattle.std.specs.Prelude.{if◌then◌else◌}
use Rattle.colour.specs.declared.RGBA.{RGBA}
use Rattle.dots.specs.Dots.{change, within}
use Rattle.dots.proofs.Laws.{length-change}
use Rattle.entries.specs.declared.Entry.{Entry}
use Rattle.entries.specs.Entries.{good_entry}
use Rattle.entries.specs.Steps.{entry_rows, Placed}
use Rattle.plan.specs.Plan.{no_entry}
use Rattle.rows.specs.declared.RowAnswer.{RowAnswer}
use Rattle.rows.specs.Rows.{good_sizes, good_entries, good_plan, refusal_of, row_refusal, entries_on, row_on, ink, list_given, list_written, firsts}
use Rattle.rows.proofs.Rules.{Given, row-given, good_start, good_more, good-at, good-wider}
use Rattle.rows.proofs.Lines.{row_more}
use Rattle.rows.proofs.Answers.{row-refused, row_kept, row-drawn, row-answered}
use Rattle.lists.specs.Steps.{unless_refused}

pub refused : {A : Type 0} {number : ℕ} (m l : A) → (number ≡ done → ⊥) → l ≡ unless_refused number m l
refused {A} {number} m l n = rw (ne_eqb number done n)

pub taken : {A : Type 0} {number : ℕ} (m l : A) → number ≡ done → m ≡ unless_refused number m l
taken {A} {number} m l e = rw (eq-eqb number done e)

-- paper, where it begins
pub begun : (W : ℕ) (paper : RGBA) (row : ℕ) (l : List ℕ) {m : List ℕ} → m ≡ change (within 0 (0 + W)) (λ _ _. paper) l → m ≡ row_on [] W paper [] row l
unfolding row_on entries_on
begun W paper row l e = e ∙ ap (λ (n : ℕ). change (within 0 n) (λ _ _. paper) l) (zero-add W)

-- ---- the first i entries of a list

firsts-take : (n : ℕ) (es : List Entry) → n ≤ length es → firsts n es ≡ take n es
unfolding firsts
firsts-take zero es h = refl
firsts-take (suc n) es h = rw (firsts-take n es (omega arith)) (sym (take-suc es n no_entry h))

firsts-all : (es : List Entry) (i : ℕ) → i ≡ length es → firsts i es ≡ es
firsts-all es i e = ap (λ (k : ℕ). firsts k es) e ∙ firsts-take (length es) es (le_refl (length es)) ∙ take-length es

module _ (W H n : ℕ) (es : List Entry) where
  pub good_none : true ≡ good_entries W H n (firsts 0 es)
  good_none = sym (good_start W H n es)

  pub good_turn : (i : ℕ) {v r : Bool} → v ≡ good_entries W H n (firsts i es) → r ≡ (v && good_entry W H n (get_or es i no_entry)) → r ≡ good_entries W H n (firsts (i + 1) es)
  unfolding firsts
  good_turn i ev er = let u : i + 1 ≡ suc i = add-one i in er ∙ rw (u, ev) (sym (good_more W H n (firsts i es) (get_or es i no_entry)))

  -- the verdict after i turns
  pub judged : ℕ → Bool
  judged zero = true
  judged (suc i) = judged i && good_entry W H n (get_or es i no_entry)

  judged-turns : (i : ℕ) → judged i ≡ good_entries W H n (firsts i es)
  unfolding judged
  judged-turns zero = good_none
  judged-turns (suc i) = good_turn i (judged-turns i) refl ∙ ap (λ (k : ℕ). good_entries W H n (firsts k es)) (add-one i)

  pub good-all : {i : ℕ} → i ≡ length es → good_entries W H n (firsts i es) ≡ good_entries W H n es
  good-all {i} e = ap (good_entries W H n) (firsts-all es i e)

  pub judged-all : judged (length es) ≡ good_entries W H n es
  judged-all = judged-turns (length es) ∙ good-all refl

-- ---- the row, entry by entry

answer : {r : RowAnswer} {a b : ℕ} → r.number ≡ a → r.ink ≡ b → r ≡ record { number = a; ink = b }
answer p q i = record { number = p i; ink = q i }

module _ (s : List ℕ) (W H : ℕ) (paper : RGBA) (es : List Entry) (row : ℕ) (l : List ℕ) where
  -- i entries of the row with this number are drawn in m
  pub record Drawn (number i : ℕ) (m : List ℕ) : Type 0 where
    pub upto : i ≤ length es
    pub decided : number ≡ row_refusal W H (length s) (length es) es row (length l)
    pub same : length m ≡ length l
    pub sofar : m ≡ unless_refused number (row_on s W paper (firsts i es) row l) l

  pub drawn-start : {number : ℕ} {good : Bool} {m : List ℕ} → good ≡ good_entries W H (length s) es
      → (number ≡ refusal_of (good_sizes W H (length es) && good) W H row (length l)) × (m ≡ unless_refused number (row_on [] W paper [] row l) l) → length m ≡ length l → Drawn number 0 m
  unfolding good_plan row_on entries_on firsts
  drawn-start {number} eg eb e = record { upto = omega arith; decided = eb.0 ∙ ap (λ (g : Bool). refusal_of (good_sizes W H (length es) && g) W H row (length l)) eg; same = e; sofar = eb.1 }

  module _ {number i : ℕ} {m : List ℕ} (d : Drawn number i m) where
    given : number ≡ done → Given W H (length s) (length es) es row (length l)
    given z = row-given W H (length s) (length es) es row (length l) (sym d.decided ∙ z)

    pub may-draw : i < length es → number ≡ done → Placed W 0 row 1 (length m) × (good_entry W limit (length s) (get_or es i no_entry) ≡ true)
    may-draw h z =
        let g = given z in
        let a : good_entries W H (length s) (firsts (length es) es) ≡ true = good-all W H (length s) es refl ∙ g.good.entries in (
          record { some = g.good.sizes.some; wide = g.good.sizes.wide; last = omega (arith, g.below, g.good.sizes.tall); room = omega (arith, g.room, d.same) },
          good-wider W H (length s) (get_or es i no_entry) g.good.sizes.tall (good-at W H (length s) es (length es) i h a),
        )

    pub drawn-next : i < length es → {k : List ℕ} → k ≡ unless_refused number (entry_rows s (get_or es i no_entry) W 0 row 1 m) m → length k ≡ length m → Drawn number (i + 1) k
    drawn-next h {k} ek e =
        record {
          upto = omega arith;
          decided = d.decided;
          same = e ∙ d.same;
          sofar = by (eqb number done) refl d.sofar ek;
        }
      where
        by : (t : Bool) → eqb number done ≡ t → m ≡ (if t then row_on s W paper (firsts i es) row l else l) → k ≡ (if t then entry_rows s (get_or es i no_entry) W 0 row 1 m else m) → k ≡ (if t then row_on s W paper (firsts (i + 1) es) row l else l)
        by true t em ek = ek ∙ rw em (row_more s W paper es row l i (given (eqb-true number done t)).good.sizes.some)
        by false t em ek = ek ∙ em

    -- an entry changes no length
    same-next : number ≡ done → length (entry_rows s (get_or es i no_entry) W 0 row 1 m) ≡ length m
    unfolding row_on
    same-next z =
        let em : m ≡ row_on s W paper (firsts i es) row l = d.sofar ∙ sym (taken _ l z) in
        rw em (ap length (row_more s W paper es row l i (given z).good.sizes.some) ∙ length-change _ _ l ∙ sym (length-change _ _ l))

    pub may-end : number ≡ done → (W * 4 ≤ length m) × (W ≤ limit)
    may-end z = let g = given z in (omega (arith, g.room, d.same), g.good.sizes.wide)

    pub drawn-end : i ≡ length es → {r : RowAnswer} {k : List ℕ} → (r.number ≡ number) × (r.ink ≡ unless_refused number (ink W m) 0) × (k ≡ m) → (r ≡ list_given s W H paper es row l) × (k ≡ list_written s W H paper es row l)
    drawn-end e {r} {k} p = by (eqb number done) refl (d.sofar ∙ ap (λ (fs : List Entry). unless_refused number (row_on s W paper fs row l) l) (firsts-all es i e)) p.1
      where
        by : (t : Bool) → eqb number done ≡ t → m ≡ (if t then row_on s W paper es row l else l) → r.ink ≡ (if t then ink W m else 0) → (r ≡ list_given s W H paper es row l) × (k ≡ list_written s W H paper es row l)
        by true t em ei =
            let z = eqb-true number done t in
            (answer (p.0 ∙ z) ei ∙ row-answered s W H paper (length es) es row l d.decided z em refl, p.2 ∙ row-drawn s W H paper (length es) es row l d.decided z em)
        by false t em ei =
            let n = eqb-false number done t in
            (answer p.0 ei ∙ row-refused s W H paper (length es) es row l d.decided n, p.2 ∙ em ∙ row_kept s W H paper (length es) es row l d.decided n)

  -- the row after i turns: paper, and each entry on what the one before left
  pub turned : ℕ → List ℕ
  turned zero = change (within 0 (0 + W)) (λ _ _. paper) l
  turned (suc i) = entry_rows s (get_or es i no_entry) W 0 row 1 (turned i)

  module _ (e : done ≡ row_refusal W H (length s) (length es) es row (length l)) where
    drawn-turns : (i : ℕ) → i ≤ length es → Drawn done i (turned i)
    unfolding good_plan turned
    drawn-turns zero h =
        let g = judged-all W H (length s) es in
        drawn-start g (e ∙ ap (λ (b : Bool). refusal_of (good_sizes W H (length es) && b) W H row (length l)) (sym g), begun W paper row l refl) (length-change _ _ l)
    drawn-turns (suc i) h = let d = drawn-turns i (omega arith) in rw (add-one i) at (drawn-next d (omega arith) refl (same-next d refl))

    -- all entries at once give what the turns give
    pub all-turns : row_on s W paper es row l ≡ turned (length es)
    all-turns = ap (λ (fs : List Entry). row_on s W paper fs row l) (sym (firsts-all es (length es) refl)) ∙ taken _ l refl ∙ sym (drawn-turns (length es) (le_refl (length es))).sofar

    pub drawn-all : {m : List ℕ} → m ≡ row_on s W paper es row l → Drawn done (length es) m
    drawn-all em = rw (sym (em ∙ all-turns)) at (drawn-turns (length es) (le_refl (length es)))
