-- The row of a plan, and its ink: 01, "Row plans". s is the given bytes, es the entries, W and H the plan's width and height.
use Rattle.std.specs.Prelude.{ℕ, zero, suc, ◌+◌, ◌*◌, ◌/◌, ◌%◌, List, [], ◌∷◌, ◌++◌, Bool, true, not, ◌&&◌, length, get_or, ltb, leb, eqb, if◌then◌else◌}
use Rattle.numbers.specs.Numbers.{limit, done, no_room, bad_plan, no_row}
use Rattle.colour.specs.declared.RGBA.{RGBA}
use Rattle.dots.specs.Dots.{dot_at, change, within}
use Rattle.entries.specs.declared.Entry.{Entry}
use Rattle.entries.specs.Entries.{good_entry, entry_on}
use Rattle.job.specs.Dropping.{most_commands}
use Rattle.plan.specs.Plan.{no_entry}
use Rattle.plan.specs.declared.Plan.{Plan}
use Rattle.rows.specs.declared.RowAnswer.{RowAnswer}

-- ---- the plan rules

unfoldable pub good_entries : ℕ → ℕ → ℕ → List Entry → Bool
good_entries W H n [] = true
good_entries W H n (e ∷ es) = good_entry W H n e && good_entries W H n es

-- W is 1 to 16,384, height at most 16,384, at most 64 entries
unfoldable pub good_sizes : ℕ → ℕ → ℕ → Bool
good_sizes W H count = leb 1 W && leb W limit && leb H limit && leb count most_commands

-- and each keeps its rules. n is the number of the given bytes
unfoldable pub good_plan : ℕ → ℕ → ℕ → ℕ → List Entry → Bool
good_plan W H n count es = good_sizes W H count && good_entries W H n es

-- order 14, 15, 1, for a row buffer of `room` bytes
unfoldable pub refusal_of : Bool → ℕ → ℕ → ℕ → ℕ → ℕ
refusal_of good W H row room =
    if not good then bad_plan
    else if leb H row then no_row
    else if ltb room (4 * W) then no_room
    else done

abbrev pub row_refusal : ℕ → ℕ → ℕ → ℕ → List Entry → ℕ → ℕ → ℕ
row_refusal W H n count es row room = refusal_of (good_plan W H n count es) W H row room

-- ---- a row is paper with the entries applied in order

unfoldable pub entries_on : List ℕ → List Entry → ℕ → ℕ → RGBA → RGBA
entries_on s [] i j d = d
entries_on s (e ∷ es) i j d = entries_on s es i j (entry_on s e i j d)

-- the row's dots in the first 4·W bytes
unfoldable pub row_on : List ℕ → ℕ → RGBA → List Entry → ℕ → List ℕ → List ℕ
row_on s W paper es row l = change (within 0 W) (λ i _. entries_on s es i row paper) l

-- n rows from row `first` on, one after the other
unfoldable pub rows_on : List ℕ → ℕ → RGBA → List Entry → ℕ → ℕ → List ℕ → List ℕ
rows_on s W paper es first n l = change (within 0 (n * W)) (λ k _. entries_on s es (k % W) (first + k / W) paper) l

-- a dot has ink when its red is below 128
unfoldable pub has_ink : RGBA → Bool
has_ink d = ltb d.r 128

-- how many of the first n dots have
unfoldable pub ink : ℕ → List ℕ → ℕ
ink zero l = 0
ink (suc n) l = ink n l + (if has_ink (dot_at l n) then 1 else 0)

-- ---- the row of `count` entries es on paper W wide and H high. A refusal writes nothing and has no ink

unfoldable pub row_written : List ℕ → ℕ → ℕ → RGBA → ℕ → List Entry → ℕ → List ℕ → List ℕ
row_written s W H paper count es row l = if eqb (row_refusal W H (length s) count es row (length l)) done then row_on s W paper es row l else l

unfoldable pub row_given : List ℕ → ℕ → ℕ → RGBA → ℕ → List Entry → ℕ → List ℕ → RowAnswer
row_given s W H paper count es row l =
    record {
      number = row_refusal W H (length s) count es row (length l);
      ink = if eqb (row_refusal W H (length s) count es row (length l)) done then ink W (row_on s W paper es row l) else 0;
    }

-- of a list that the caller lends: all its entries
abbrev pub list_written : List ℕ → ℕ → ℕ → RGBA → List Entry → ℕ → List ℕ → List ℕ
list_written s W H paper es row l = row_written s W H paper (length es) es row l

abbrev pub list_given : List ℕ → ℕ → ℕ → RGBA → List Entry → ℕ → List ℕ → RowAnswer
list_given s W H paper es row l = row_given s W H paper (length es) es row l

-- of a plan record: its first `count` entries
unfoldable pub firsts : ℕ → List Entry → List Entry
firsts zero es = []
firsts (suc n) es = firsts n es ++ (get_or es n no_entry ∷ [])

abbrev pub used : Plan → List Entry
used p = firsts p.count p.entries

abbrev pub plan_refusal : Plan → ℕ → ℕ → ℕ → ℕ
plan_refusal p row n room = row_refusal p.width p.height n p.count (used p) row room

abbrev pub plan_written : List ℕ → Plan → ℕ → List ℕ → List ℕ
plan_written s p row l = row_written s p.width p.height p.paper_color p.count (used p) row l

abbrev pub plan_given : List ℕ → Plan → ℕ → List ℕ → RowAnswer
plan_given s p row l = row_given s p.width p.height p.paper_color p.count (used p) row l

-- ---- n rows of a plan from row `first` on, at once: order 14, 15, 1 too. A refusal writes nothing

unfoldable pub rows_refusal : Bool → ℕ → ℕ → ℕ → ℕ → ℕ → ℕ
rows_refusal good W H first n room =
    if not good then bad_plan
    else if ltb H (first + n) then no_row
    else if ltb room (4 * (n * W)) then no_room
    else done

abbrev pub plan_rows_refusal : Plan → ℕ → ℕ → ℕ → ℕ → ℕ
plan_rows_refusal p first n bytes room =
    rows_refusal (good_plan p.width p.height bytes p.count (used p)) p.width p.height first n room

unfoldable pub plan_rows_written : List ℕ → Plan → ℕ → ℕ → List ℕ → List ℕ
plan_rows_written s p first n l =
    if eqb (plan_rows_refusal p first n (length s) (length l)) done then rows_on s p.width p.paper_color (used p) first n l else l
