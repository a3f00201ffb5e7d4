-- The listing: 01, "The listing".
use Rattle.std.specs.Prelude.{ℕ, zero, suc, Result, Ok, Err, ◌+◌, ◌*◌, ◌/◌, ◌%◌, List, [], ◌∷◌, ◌++◌, length, drop, replicate, ltb, eqb, if◌then◌else◌}
use Prim.Native.Char.{code}
use Prim.Native.String.{String, [] as none, ◌∷◌ as ◌then◌}
use Rattle.numbers.specs.Numbers.{done, no_room, bad_job, number_of}
use Rattle.numbers.specs.declared.refusal.Refusal.{Refusal}
use Rattle.colour.specs.Colour.{blank}
use Rattle.plan.specs.declared.Plan.{Plan}
use Rattle.plan.specs.declared.Translated.{Translated}
use Rattle.plan.specs.Plan.{plan_with, translated}
use Rattle.rows.specs.Rows.{plan_given}

-- ---- text

-- the bytes of a text of ASCII
unfoldable pub ascii : String → List ℕ
ascii none = []
ascii (c then cs) = code c ∷ ascii cs

abbrev pub digit : ℕ → ℕ
digit d = 48 + d

-- a number in decimal: the digits of n / 10, where there are any, and the last. Any k above n is enough
unfoldable pub digits_by : ℕ → ℕ → List ℕ
digits_by zero n = []
digits_by (suc k) n = if ltb n 10 then (digit n ∷ []) else digits_by k (n / 10) ++ (digit (n % 10) ∷ [])

unfoldable pub digits : ℕ → List ℕ
digits n = digits_by (suc n) n

-- ---- the lines: words with numbers after them, and a newline

unfoldable pub part : String → ℕ → List ℕ
part word n = ascii word ++ digits n

abbrev pub newline : ℕ
newline = 10

-- the paper width, plan height and number dropped
unfoldable pub paper_line : ℕ → ℕ → ℕ → List ℕ
paper_line W H dropped = part "paper " W ++ part " height " H ++ part " dropped " dropped ++ (newline ∷ [])

-- a row's number and ink count
unfoldable pub row_line : ℕ → ℕ → List ℕ
row_line row ink = part "row " row ++ part " ink " ink ++ (newline ∷ [])

unfoldable pub refused_line : ℕ → List ℕ
refused_line number = part "refused " number ++ (newline ∷ [])

-- ---- a text in a lent buffer: all of it or nothing

-- what a line answers: the number, and how many bytes the text has
pub record Written : Type 0 where
  pub number : ℕ
  pub size : ℕ

abbrev pub written : Result ℕ Refusal → Written
written (Ok size) = record { number = done; size = size }
written (Err why) = record { number = number_of why; size = 0 }

unfoldable pub text_on : List ℕ → List ℕ → List ℕ
text_on t l = if ltb (length l) (length t) then l else t ++ drop (length t) l

unfoldable pub text_given : List ℕ → ℕ → Written
text_given t room = if ltb room (length t) then record { number = no_room; size = 0 } else record { number = done; size = length t }

-- ---- the job that is listed

abbrev pub most_bytes : ℕ
most_bytes = 32768

-- a job of at most 32,768 bytes; 11 if longer
unfoldable pub listed : List ℕ → Translated
listed s = if ltb most_bytes (length s) then record { number = bad_job; plan = plan_with 0 blank 0 [] [] } else translated s

-- ---- the whole listing: a line for the job, and one for each row of its plan. A refused job's plan has no rows

unfoldable pub first_line : Translated → List ℕ
first_line t = if eqb t.number done then paper_line t.plan.width t.plan.height t.plan.dropped_count else refused_line t.number

-- a row's ink, in a row buffer of zeros. It is the same in any other (`row-ink`)
unfoldable pub ink_of : List ℕ → Plan → ℕ → ℕ
ink_of s p row = (plan_given s p row (replicate (4 * p.width) 0)).ink

-- the lines of the first n rows
unfoldable pub row_lines : List ℕ → Plan → ℕ → List ℕ
row_lines s p zero = []
row_lines s p (suc n) = row_lines s p n ++ row_line n (ink_of s p n)

unfoldable pub listing : List ℕ → List ℕ
listing s = first_line (listed s) ++ row_lines s (listed s).plan (listed s).plan.height
