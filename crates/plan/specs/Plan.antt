-- Row plans: 01, "Row plans".
use Rattle.std.specs.Prelude.{ℕ, ◌+◌, List, [], ◌∷◌, Bool, true, false, ◌||◌, length, eqb, if◌then◌else◌}
use Rattle.numbers.specs.Numbers.{done, not_translated}
use Rattle.colour.specs.Colour.{blank}
use Rattle.colour.specs.declared.RGBA.{RGBA}
use Rattle.images.specs.Stretching.{factor}
use Rattle.job.specs.Commands.{paper_width, paper_color, commands}
use Rattle.job.specs.Dropping.{job_refusal, job_height, job_dropped, kept_of, no_dropped, filled_up}
use Rattle.job.specs.declared.dropping.Dropped.{Dropped}
use Rattle.job.specs.declared.commands.Command.{Command}
use Rattle.job.specs.declared.commands.Command.TheVariants.{Rectangle, Image, Margin, Flip}
use Rattle.entries.specs.declared.Entry.{Entry}
use Rattle.entries.specs.Entries.{rectangle_entry, image_entry}
use Rattle.plan.specs.declared.Plan.{Plan}
use Rattle.plan.specs.declared.Translated.{Translated}

-- ---- entries

-- the entry m rows further down
abbrev pub lower : ℕ → Entry → Entry
lower m e = record {
  kind = e.kind;
  mode = e.mode;
  stretch_x = e.stretch_x;
  stretch_y = e.stretch_y;
  color = e.color;
  x = e.x;
  y = e.y + m;
  w = e.w;
  h = e.h;
  original_width = e.original_width;
  original_height = e.original_height;
  start = e.start;
}

-- the rows that margins add
unfoldable pub margins : List Command → ℕ
margins [] = 0
margins (Rectangle x y w h c mode ∷ cs) = margins cs
margins (Image x y w h sx sy c mode start size ∷ cs) = margins cs
margins (Margin m ∷ cs) = m + margins cs
margins (Flip x y w h ∷ cs) = margins cs

-- one entry for each kept rectangle or image, zero areas too, cropped, its y moved by later margins
unfoldable pub entries_of : ℕ → List Command → List Entry
entries_of W [] = []
entries_of W (Rectangle x y w h c mode ∷ cs) = lower (margins cs) (rectangle_entry W x y w h c mode) ∷ entries_of W cs
entries_of W (Image x y w h sx sy c mode start size ∷ cs) = lower (margins cs) (image_entry W x y w h (factor sx) (factor sy) c mode start) ∷ entries_of W cs
entries_of W (Margin m ∷ cs) = entries_of W cs
entries_of W (Flip x y w h ∷ cs) = entries_of W cs

-- ---- a translation: order 11, 12, 13

unfoldable pub is_flip : Command → Bool
is_flip (Rectangle x y w h c mode) = false
is_flip (Image x y w h sx sy c mode start size) = false
is_flip (Margin m) = false
is_flip (Flip x y w h) = true

unfoldable pub has_flip : List Command → Bool
has_flip [] = false
has_flip (c ∷ cs) = is_flip c || has_flip cs

unfoldable pub translate_refusal : List ℕ → ℕ
translate_refusal s = if eqb (job_refusal s) done then (if has_flip (commands s) then not_translated else done) else job_refusal s

-- unused places are zero
abbrev pub no_entry : Entry
no_entry = record {
  kind = 0;
  mode = 0;
  stretch_x = 0;
  stretch_y = 0;
  color = blank;
  x = 0;
  y = 0;
  w = 0;
  h = 0;
  original_width = 0;
  original_height = 0;
  start = 0;
}

-- the record of a plan with entries es and dropped commands ds
abbrev pub plan_with : ℕ → RGBA → ℕ → List Entry → List Dropped → Plan
plan_with W paper height es ds = record {
  width = W;
  height = height;
  paper_color = paper;
  count = length es;
  entries = filled_up no_entry es;
  dropped_count = length ds;
  dropped = filled_up no_dropped ds;
}

unfoldable pub plan_of : List ℕ → Plan
plan_of s = plan_with (paper_width s) (paper_color s) (job_height s) (entries_of (paper_width s) (kept_of s)) (job_dropped s)

-- a refusal gives a plan of zeros
abbrev pub refused_with : ℕ → Translated
refused_with number = record { number = number; plan = plan_with 0 blank 0 [] [] }

unfoldable pub translated : List ℕ → Translated
translated s = record { number = translate_refusal s; plan = if eqb (translate_refusal s) done then plan_of s else plan_with 0 blank 0 [] [] }
