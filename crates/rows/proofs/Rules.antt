-- The plan rules as the code tests them, entry by entry. Assumes nothing.
use Prim.Native.Nat.{ℕ, zero, suc, ◌+◌, ◌*◌, ◌≤◌, ◌<◌}
use mathlib.Core.Path.{◌≡◌, refl, ap, sym, ◌∙◌}
use mathlib.Core.Logic.{⊎_elim}
use mathlib.Core.List.{List, [], ◌∷◌, ◌++◌}
use mathlib.Core.Bool.{Bool, true, false, not, ◌&&◌, and-true, true≢false}
use native.Mathlib.Nat.{one-mul, not-suc-le-zero, le_refl}
use lib.Seq.{take-suc, take-length}
use native.Mathlib.Omega.{arith}
use borrow.Author.Tests.{leb-true, ltb-false, le-leb, lt-leb, lt-ltb, le-ltb}
use lib.Dec.{ltb, leb}
use lib.ListN.{length, get_or, take}
use Rattle.numbers.specs.Numbers.{limit, done, no_room, bad_plan, no_row}
use Rattle.std.specs.Prelude.{if◌then◌else◌}
use Rattle.colour.proofs.Tests.{and_both}
use Rattle.dots.proofs.Laws.{below}
use Rattle.entries.specs.declared.Entry.{Entry}
use Rattle.entries.specs.Entries.{good_kind, good_entry}
use Rattle.job.specs.Commands.{sound_mode}
use Rattle.job.specs.Dropping.{most_commands}
use Rattle.plan.specs.Plan.{no_entry}
use Rattle.rows.specs.Rows.{good_sizes, good_entries, good_plan, refusal_of, row_refusal, rows_refusal, firsts}

pub record Sizes (W H count : ℕ) : Type 0 where
  pub some : 1 ≤ W
  pub wide : W ≤ limit
  pub tall : H ≤ limit
  pub few : count ≤ most_commands

pub sizes-good : (W H count : ℕ) → good_sizes W H count ≡ true → Sizes W H count
unfolding good_sizes
sizes-good W H count e =
    let b = and_both (leb 1 W && leb W limit && leb H limit) (leb count most_commands) e in
    let c = and_both (leb 1 W && leb W limit) (leb H limit) b.0 in
    let d = and_both (leb 1 W) (leb W limit) c.0 in
    record { some = leb-true _ _ d.0; wide = leb-true _ _ d.1; tall = leb-true _ _ c.1; few = leb-true _ _ b.1 }

pub rows-done : (good : Bool) (W H first n room : ℕ) → rows_refusal good W H first n room ≡ done → (good ≡ true) × (first + n ≤ H) × (n * W * 4 ≤ room)
unfolding rows_refusal
rows-done good W H first n room = by good (ltb H (first + n)) refl (ltb room (4 * (n * W))) refl
  where
    by : (a b : Bool) → ltb H (first + n) ≡ b → (c : Bool) → ltb room (4 * (n * W)) ≡ c → (if not a then bad_plan else if b then no_row else if c then no_room else done) ≡ done
        → (a ≡ true) × (first + n ≤ H) × (n * W * 4 ≤ room)
    by true false q false r e = (refl, ltb-false H (first + n) q, omega (arith, ltb-false room (4 * (n * W)) r))
    by true false q true r e = absurd (omega arith)
    by true true q c r e = absurd (omega arith)
    by false b q c r e = absurd (omega arith)

-- a row is refused as one row of some
pub refusal-one : (good : Bool) (W H row room : ℕ) → rows_refusal good W H row 1 room ≡ refusal_of good W H row room
unfolding rows_refusal refusal_of
refusal-one good W H row room = rw (past, one-mul W) refl
  where
    past : ltb H (row + 1) ≡ leb H row
    past = ⊎_elim (λ u. lt-ltb H (row + 1) u ∙ sym (le-leb H row (omega arith))) (λ u. le-ltb H (row + 1) u ∙ sym (lt-leb H row (omega arith))) (below H (row + 1))

pub refusal-done : (good : Bool) (W H row room : ℕ) → refusal_of good W H row room ≡ done → (good ≡ true) × (row < H) × (W * 4 ≤ room)
refusal-done good W H row room e =
    let d = rows-done good W H row 1 room (refusal-one good W H row room ∙ e) in
    (d.0, omega (arith, d.1), omega (arith, d.2, one-mul W))

module _ (W H n : ℕ) where
  pub good_more : (es : List Entry) (e : Entry) → good_entries W H n (es ++ (e ∷ [])) ≡ (good_entries W H n es && good_entry W H n e)
  unfolding good_entries
  good_more [] e = and-true _
  good_more (f ∷ es) e = rw (good_more es e) (split (good_entry W H n f))
    where
      split : (t : Bool) → (t && (good_entries W H n es && good_entry W H n e)) ≡ ((t && good_entries W H n es) && good_entry W H n e)
      split true = refl
      split false = refl

  -- the first i entries are good, and so is the next
  pub good-next : (es : List Entry) (i : ℕ) → good_entries W H n (firsts i es) ≡ true → good_entry W H n (get_or es i no_entry) ≡ true → good_entries W H n (firsts (i + 1) es) ≡ true
  unfolding firsts
  good-next es i a b = let u : i + 1 ≡ suc i = omega arith in rw (u, good_more (firsts i es) (get_or es i no_entry), a, b)

  pub good_start : (es : List Entry) → good_entries W H n (firsts 0 es) ≡ true
  unfolding firsts good_entries
  good_start es = refl

  -- of good entries each is good
  pub good-at : (es : List Entry) (count i : ℕ) → i < count → good_entries W H n (firsts count es) ≡ true → good_entry W H n (get_or es i no_entry) ≡ true
  unfolding firsts
  good-at es zero i h e = absurd (not-suc-le-zero h)
  good-at es (suc count) i h e =
      let b = and_both (good_entries W H n (firsts count es)) (good_entry W H n (get_or es count no_entry)) (sym (good_more (firsts count es) (get_or es count no_entry)) ∙ e) in
      ⊎_elim (λ u. good-at es count i u b.0) (λ u. let q : i ≡ count = omega arith in rw q b.1) (below i count)

  pub good-not : (count : ℕ) (es : List Entry) (i : ℕ) → i < count → good_entry W H n (get_or es i no_entry) ≡ false → false ≡ good_entries W H n (firsts count es)
  good-not count es i h e = by (good_entries W H n (firsts count es)) refl
    where
      by : (t : Bool) → good_entries W H n (firsts count es) ≡ t → false ≡ t
      by true q = absurd (true≢false (sym (good-at es count i h q) ∙ e))
      by false q = refl

  module _ (count : ℕ) (es : List Entry) where
    pub record Good : Type 0 where
      pub sizes : Sizes W H count
      pub entries : good_entries W H n es ≡ true

    pub plan-good : good_plan W H n count es ≡ true → Good
    unfolding good_plan
    plan-good e = let a = and_both (good_sizes W H count) _ e in record { sizes = sizes-good W H count a.0; entries = a.1 }

    pub good-plan : Good → good_plan W H n count es ≡ true
    unfolding good_plan good_sizes
    good-plan g =
        let z = g.sizes in
        rw (le-leb 1 W z.some, le-leb W limit z.wide, le-leb H limit z.tall, le-leb count most_commands z.few) g.entries

    -- rows that are not refused
    pub record Asked (first m size : ℕ) : Type 0 where
      pub good : Good
      pub within : first + m ≤ H
      pub room : m * W * 4 ≤ size

    pub rows-asked : (first m room : ℕ) → rows_refusal (good_plan W H n count es) W H first m room ≡ done → Asked first m room
    rows-asked first m room e = let p = rows-done (good_plan W H n count es) W H first m room e in record { good = plan-good p.0; within = p.1; room = p.2 }

    pub asked-rows : (first m room : ℕ) → Asked first m room → rows_refusal (good_plan W H n count es) W H first m room ≡ done
    unfolding rows_refusal
    asked-rows first m room g = rw (good-plan g.good, le-ltb H (first + m) g.within, le-ltb room (4 * (m * W)) (omega (arith, g.room)))

    -- a row that is not refused
    pub record Given (row size : ℕ) : Type 0 where
      pub good : Good
      pub below : row < H
      pub room : W * 4 ≤ size

    pub row-given : (row room : ℕ) → row_refusal W H n count es row room ≡ done → Given row room
    row-given row room e = let p = refusal-done (good_plan W H n count es) W H row room e in record { good = plan-good p.0; below = p.1; room = p.2 }

    pub given-row : (row room : ℕ) → Given row room → row_refusal W H n count es row room ≡ done
    unfolding refusal_of
    given-row row room g = rw (good-plan g.good, lt-leb H row g.below, le-ltb room (4 * W) (omega (arith, g.room)))

-- the first entries of a list that goes on
first_next : (n : ℕ) (e : Entry) (es : List Entry) → firsts (suc n) (e ∷ es) ≡ e ∷ firsts n es
unfolding firsts
first_next zero e es = refl
first_next (suc n) e es = ap (λ (l : List Entry). l ++ (get_or es n no_entry ∷ [])) (first_next n e es)

pub firsts-all : (es fs : List Entry) → firsts (length es) (es ++ fs) ≡ es
unfolding firsts
firsts-all [] fs = refl
firsts-all (e ∷ es) fs = first_next (length es) e (es ++ fs) ∙ ap (λ (l : List Entry). e ∷ l) (firsts-all es fs)

-- an entry that keeps its rules keeps them in a taller plan
pub good-wider : (W H n : ℕ) (e : Entry) → H ≤ limit → good_entry W H n e ≡ true → good_entry W limit n e ≡ true
unfolding good_entry
good-wider W H n e h g =
    let a = and_both _ (good_kind n e) g in
    let b = and_both (sound_mode e.mode && leb (e.x + e.w) W) (leb (e.y + e.h) H) a.0 in
    rw (b.0, le-leb (e.y + e.h) limit (omega (arith, leb-true (e.y + e.h) H b.1))) a.1

-- the first entries of a list that has as many
pub firsts-take : (n : ℕ) (es : List Entry) → n ≤ length es → firsts n es ≡ take n es
unfolding firsts
firsts-take zero es h = refl
firsts-take (suc n) es h = rw (firsts-take n es (omega arith)) (sym (take-suc es n no_entry h))

pub firsts-whole : (es : List Entry) (i : ℕ) → i ≡ length es → firsts i es ≡ es
firsts-whole es i e = ap (λ (k : ℕ). firsts k es) e ∙ firsts-take (length es) es (le_refl (length es)) ∙ take-length es

module _ (W H n : ℕ) where
  -- all of them
  pub good-whole : (es : List Entry) {i : ℕ} → i ≡ length es → good_entries W H n (firsts i es) ≡ good_entries W H n es
  good-whole es {i} e = ap (good_entries W H n) (firsts-whole es i e)

  pub good-each : (es : List Entry) → good_entries W H n es ≡ true → (i : ℕ) → i < length es → good_entry W H n (get_or es i no_entry) ≡ true
  good-each es g i h = good-at W H n es (length es) i h (good-whole es refl ∙ g)

  -- entries that keep their rules keep them in a taller plan
  pub all-wider : (es : List Entry) → H ≤ limit → good_entries W H n es ≡ true → good_entries W limit n es ≡ true
  unfolding good_entries
  all-wider [] h g = refl
  all-wider (e ∷ es) h g =
      let a = and_both (good_entry W H n e) _ g in rw (good-wider W H n e h a.0, all-wider es h a.1)
