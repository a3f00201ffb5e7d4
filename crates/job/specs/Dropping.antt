-- What a job is refused for, and what its commands are dropped for: 01, "Jobs". A run starts at height 0 with growth on; W is the paper's width and H the height so far.
use Rattle.std.specs.Prelude.{ℕ, ◌+◌, ◌-◌, ◌*◌, max, List, [], ◌∷◌, ◌++◌, Bool, true, not, length, replicate, ltb, eqb, if◌then◌else◌}
use Rattle.numbers.specs.Numbers.{done, too_large, wrong_length, bad_job, too_long}
use Rattle.refusals.specs.Refusals.{first, tall_refusal, side_refusal, off_refusal, across_refusal, empty_refusal}
use Rattle.images.specs.declared.formats.Format.TheVariants.{Bits}
use Rattle.images.specs.Formats.{bytes_of}
use Rattle.images.specs.Stretching.{factor, is_large}
use Rattle.job.specs.declared.commands.Command.{Command}
use Rattle.job.specs.declared.commands.Command.TheVariants.{Rectangle, Image, Margin, Flip}
use Rattle.job.specs.declared.dropping.Dropped.{Dropped}
use Rattle.job.specs.Commands.{sound, paper_width, commands}

-- ---- a job: order 11, 12

abbrev pub most_commands : ℕ
most_commands = 64

-- 11, 12, of bytes that keep the job rules or do not, and the commands cs that they hold
unfoldable pub number_of : Bool → List Command → ℕ
number_of is_sound cs = if not is_sound then bad_job else if ltb most_commands (length cs) then too_long else done

unfoldable pub job_refusal : List ℕ → ℕ
job_refusal s = number_of (sound s) (commands s)

-- ---- a command

-- a put of w·h pixels at (x, y): 2, 5, 8. With all its pixels and growth on it is never 6 or 7
unfoldable pub put_reason : ℕ → ℕ → ℕ → ℕ → ℕ → ℕ → ℕ
put_reason W H x y w h = first (side_refusal w h) (first (off_refusal W H true x y) (tall_refusal (max H (y + h))))

-- an image of w by h dots in `size` bytes of bit rows, stretched fx and fy times: its decoding's 2, 3 before its put's
unfoldable pub image_reason : ℕ → ℕ → ℕ → ℕ → ℕ → ℕ → ℕ → ℕ → ℕ → ℕ
image_reason W H x y w h fx fy size =
    if is_large w h fx fy then too_large
    else if not (eqb size (bytes_of Bits w h)) then wrong_length
    else put_reason W H x y (w * fx) (h * fy)

-- a flip: 10, 5, 8
unfoldable pub flip_reason : ℕ → ℕ → ℕ → ℕ → ℕ → ℕ → ℕ
flip_reason W H x y w h = first (empty_refusal w h) (first (across_refusal W x w) (tall_refusal (max H (y + h))))

-- the number for which a command is dropped, or 0. A margin: 8
unfoldable pub reason_of : ℕ → ℕ → Command → ℕ
reason_of W H (Rectangle x y w h c mode) = put_reason W H x y w h
reason_of W H (Image x y w h sx sy c mode start size) = image_reason W H x y w h (factor sx) (factor sy) size
reason_of W H (Margin m) = tall_refusal (H + m)
reason_of W H (Flip x y w h) = flip_reason W H x y w h

-- the height after a command that is kept
unfoldable pub height_after : ℕ → Command → ℕ
height_after H (Rectangle x y w h c mode) = max H (y + h)
height_after H (Image x y w h sx sy c mode start size) = max H (y + h * factor sy)
height_after H (Margin m) = H + m
height_after H (Flip x y w h) = max H (y + h)

-- ---- one command after another

abbrev pub kept : ℕ → ℕ → Command → Bool
kept W H c = eqb (reason_of W H c) done

-- the height after a command: a dropped one changes nothing
unfoldable pub next_height : ℕ → ℕ → Command → ℕ
next_height W H c = if kept W H c then height_after H c else H

unfoldable pub height_from : ℕ → ℕ → List Command → ℕ
height_from W H [] = H
height_from W H (c ∷ cs) = height_from W (next_height W H c) cs

unfoldable pub kept_from : ℕ → ℕ → List Command → List Command
kept_from W H [] = []
kept_from W H (c ∷ cs) = if kept W H c then c ∷ kept_from W (next_height W H c) cs else kept_from W (next_height W H c) cs

-- the dropped ones in order, by place and reason; k is the first command's place
unfoldable pub dropped_from : ℕ → ℕ → ℕ → List Command → List Dropped
dropped_from W H k [] = []
dropped_from W H k (c ∷ cs) =
    if kept W H c then dropped_from W (next_height W H c) (k + 1) cs
    else record { place = k; reason = reason_of W H c } ∷ dropped_from W (next_height W H c) (k + 1) cs

-- ---- the commands of the job s

unfoldable pub job_height : List ℕ → ℕ
job_height s = height_from (paper_width s) 0 (commands s)

unfoldable pub kept_of : List ℕ → List Command
kept_of s = kept_from (paper_width s) 0 (commands s)

-- the first after the paper is 0
unfoldable pub job_dropped : List ℕ → List Dropped
job_dropped s = dropped_from (paper_width s) 0 0 (commands s)

-- ---- a list in a record has a place for each command. Unused places are zero, in dropped lists too

abbrev pub no_dropped : Dropped
no_dropped = record { place = 0; reason = 0 }

unfoldable pub filled_up : {A : Type 0} → A → List A → List A
filled_up none l = l ++ replicate (most_commands - length l) none
