-- Inner steps of a run: what is made of the canvas's bytes at each command, and the survey before the first. W is the paper's width, H the height so far.
use Rattle.std.specs.Prelude.{ℕ, ◌+◌, ◌*◌, ◌≤◌, max, List, length, set, if◌then◌else◌}
use Rattle.numbers.specs.Numbers.{limit}
use Rattle.colour.specs.declared.RGBA.{RGBA}
use Rattle.images.specs.Stretching.{factor}
use Rattle.areas.specs.Areas.{flipped_on}
use Rattle.moves.specs.Moves.{lowered_on}
use Rattle.job.specs.declared.dropping.Dropped.{Dropped}
use Rattle.job.specs.declared.commands.Command.{Command}
use Rattle.job.specs.declared.commands.Command.TheVariants.{Rectangle, Image, Margin, Flip}
use Rattle.job.specs.Dropping.{reason_of, height_after, kept, no_dropped, filled_up}
use Rattle.entries.specs.declared.Entry.{Entry}
use Rattle.entries.specs.Entries.{rectangle_entry, image_entry}
use Rattle.entries.specs.Steps.{entry_rows}
use Rattle.thermal_image.specs.Canvas.{papered}
use Rattle.runs.specs.declared.survey.Survey.{Survey}

-- ---- the survey: the height and the dropped list so far

abbrev pub survey_with : ℕ → List Dropped → Survey
survey_with H ds = record { height = H; dropped_count = length ds; dropped = filled_up no_dropped ds }

abbrev pub left_out : Survey → ℕ → ℕ → Survey
left_out v k why = record {
  height = v.height;
  dropped_count = v.dropped_count + 1;
  dropped = set v.dropped v.dropped_count (record { place = k; reason = why });
}

abbrev pub reached : Survey → ℕ → Survey
reached v height = record { height = height; dropped_count = v.dropped_count; dropped = v.dropped }

unfoldable pub seen : ℕ → Survey → ℕ → Command → Survey
seen W v k c = if kept W v.height c then reached v (height_after v.height c) else left_out v k (reason_of W v.height c)

-- ---- the bytes

-- a canvas high enough for the entry, with the entry drawn
unfoldable pub placed_on : List ℕ → ℕ → RGBA → ℕ → Entry → List ℕ → List ℕ
placed_on s W paper H e l = entry_rows s e W e.y e.y e.h (papered W H (max H (e.y + e.h)) paper l)

unfoldable pub obeyed_on : List ℕ → ℕ → RGBA → ℕ → Command → List ℕ → List ℕ
obeyed_on s W paper H (Rectangle x y w h c mode) l = placed_on s W paper H (rectangle_entry W x y w h c mode) l
obeyed_on s W paper H (Image x y w h sx sy c mode start size) l = placed_on s W paper H (image_entry W x y w h (factor sx) (factor sy) c mode start) l
obeyed_on s W paper H (Margin m) l = lowered_on (W * H) (W * m) paper l
obeyed_on s W paper H (Flip x y w h) l = flipped_on W x y w h (papered W H (max H (y + h)) paper l)

-- a dropped command changes nothing
unfoldable pub stepped_on : List ℕ → ℕ → RGBA → ℕ → Command → List ℕ → List ℕ
stepped_on s W paper H c l = if kept W H c then obeyed_on s W paper H c l else l

-- sizes for which no sum wraps, and a buffer of n bytes with room for H rows
pub record Room (W H n : ℕ) : Type 0 where
  pub some : 1 ≤ W
  pub wide : W ≤ limit
  pub tall : H ≤ limit
  pub room : W * H * 4 ≤ n
