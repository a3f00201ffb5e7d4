-- The rules of a run are those of the canvas: 01, "Jobs". For what numbers commands are dropped stands in job, and what kept ones make of the bytes in runs. `CommandsOnCanvas` claims that for each command both are what its canvas operation gives, and `RunOnCanvas` that a run is these operations one by one.
use Rattle.std.specs.Prelude.{ℕ, ◌+◌, ◌*◌, ◌≤◌, ◌≡◌, List, [], ◌∷◌, true, length, take, drop, eqb, if◌then◌else◌}
use Rattle.numbers.specs.Numbers.{done}
use Rattle.colour.specs.declared.RGBA.{RGBA}
use Rattle.images.specs.declared.formats.Format.TheVariants.{Bits}
use Rattle.images.specs.Stretching.{factor}
use Rattle.graphics.specs.Decoding.{decoded, decoded_on}
use Rattle.job.specs.declared.commands.Command.{Command}
use Rattle.job.specs.declared.commands.Command.TheVariants.{Rectangle, Image, Margin, Flip}
use Rattle.job.specs.declared.dropping.Dropped.{Dropped}
use Rattle.job.specs.Records.{Bytes}
use Rattle.job.specs.Commands.{paper_width, paper_color, multiplies, commands}
use Rattle.job.specs.Dropping.{reason_of, height_after, job_dropped}
use Rattle.thermal_image.specs.declared.ThermalImage.{ThermalImage}
use Rattle.thermal_image.specs.declared.Answer.{Answer}
use Rattle.refusals.specs.Refusals.{first, canvas_refusal, room_refusal, margin_refusal}
use Rattle.thermal_image.specs.Canvas.{canvas, finished, margined, margined_on}
use Rattle.places.specs.Places.{put_refusal, rect_refusal, flip_refusal}
use Rattle.drawing.specs.Drawing.{put, put_on, rect, rect_on, flip, flip_on}
use Rattle.runs.specs.Steps.{obeyed_on}
use Rattle.runs.specs.Run.{run_refusal, run_canvas, run_on}

-- what an operation gives: its number, its answer, and the bytes that it leaves
pub record Outcome : Type 0 where
  pub number : ℕ
  pub answer : Answer
  pub bytes : List ℕ

-- the data of an image in the job's bytes s
abbrev pub data_of : List ℕ → ℕ → ℕ → List ℕ
data_of s start size = take size (drop start s)

-- pixels put where decoding, which answers `number` and the sizes w and h, is done
unfoldable pub image_outcome : ℕ → ℕ → ℕ → ℕ → ℕ → ℕ → List ℕ → ThermalImage → List ℕ → Outcome
image_outcome number mode x y w h pixels t l = record {
  number = first number (put_refusal t x y w h (length pixels) (length l));
  answer = put t x y w h (length pixels) (length l);
  bytes = put_on (multiplies mode) t x y w h pixels l;
}

-- the canvas operation of a command, on the canvas t in the buffer l. An image is decoded to the buffer `out` first
unfoldable pub outcome : List ℕ → List ℕ → ThermalImage → List ℕ → Command → Outcome
outcome s out t l (Rectangle x y w h c mode) = record {
  number = rect_refusal t x y w h (length l);
  answer = rect t x y w h (length l);
  bytes = rect_on (multiplies mode) t x y w h c l;
}
outcome s out t l (Image x y w h sx sy c mode start size) =
    let d = decoded Bits w h sx sy (length (data_of s start size)) (length out) in
    image_outcome d.number mode x y d.w d.h (decoded_on Bits (data_of s start size) w h sx sy c out) t l
outcome s out t l (Margin m) = record {
  number = margin_refusal t.width t.height m (length l);
  answer = margined t m (length l);
  bytes = margined_on t m l;
}
outcome s out t l (Flip x y w h) = record {
  number = flip_refusal t x y w h (length l);
  answer = flip t x y w h (length l);
  bytes = flip_on t x y w h l;
}

-- an image's data lie in the job's bytes, as every sound job's do
unfoldable pub Inside : List ℕ → Command → Type 0
Inside s (Rectangle x y w h c mode) = Unit {0}
Inside s (Image x y w h sx sy c mode start size) = start + size ≤ length s
Inside s (Margin m) = Unit {0}
Inside s (Flip x y w h) = Unit {0}

-- the bytes of an image's pixels
unfoldable pub pixel_bytes : Command → ℕ
pixel_bytes (Rectangle x y w h c mode) = 0
pixel_bytes (Image x y w h sx sy c mode start size) = 4 * (w * factor sx * (h * factor sy))
pixel_bytes (Margin m) = 0
pixel_bytes (Flip x y w h) = 0

-- ---- one command

-- what an operation gives, beside the command c on paper W wide, H rows high so far, in the buffer l
pub record OnCanvas (s : List ℕ) (W H : ℕ) (paper : RGBA) (l : List ℕ) (c : Command) (o : Outcome) : Type 0 where
  -- what the command is dropped for; else only a buffer too short for the new height is refused, which a run decides at its start
  pub number : o.number ≡ first (reason_of W H c) (room_refusal W (height_after H c) (length l))
  pub answer : o.number ≡ done → o.answer ≡ finished (canvas W (height_after H c) true paper)
  pub bytes : o.number ≡ done → o.bytes ≡ obeyed_on s W paper H c l

-- for every command and every sound canvas with growth on
abbrev pub CommandsOnCanvas : Type 0
CommandsOnCanvas =
    (s out l : List ℕ) (W H : ℕ) (paper : RGBA) (c : Command) → 1 ≤ W → canvas_refusal W H (length l) ≡ done → Inside s c → length out ≡ pixel_bytes c
    → OnCanvas s W H paper l c (outcome s out (canvas W H true paper) l c)

-- ---- a run

-- what commands come to: the canvas, its bytes, and those dropped
pub record Upshot : Type 0 where
  pub image : ThermalImage
  pub bytes : List ℕ
  pub dropped : List Dropped

abbrev pub without : ℕ → ℕ → Upshot → Upshot
without k why u = record { image = u.image; bytes = u.bytes; dropped = record { place = k; reason = why } ∷ u.dropped }

-- canvas operations one by one, for the commands from place k on; `outs` has a buffer for each image. A refused one changes nothing and is dropped
unfoldable pub performed : List ℕ → (Command → List ℕ) → ℕ → ThermalImage → List ℕ → List Command → Upshot
performed s outs k t l [] = record { image = t; bytes = l; dropped = [] }
performed s outs k t l (c ∷ cs) =
    let o = outcome s (outs c) t l c in
    if eqb o.number done then performed s outs (k + 1) o.answer.image o.bytes cs
    else without k o.number (performed s outs (k + 1) t l cs)

-- for every job that is run: the operations of its commands, from a canvas without rows on, come to what the run is stated to answer and to leave
abbrev pub RunOnCanvas : Type 0
RunOnCanvas =
    (s l : List ℕ) (outs : Command → List ℕ) → Bytes s → run_refusal s (length l) ≡ done → ((c : Command) → length (outs c) ≡ pixel_bytes c)
    → performed s outs 0 (canvas (paper_width s) 0 true (paper_color s)) l (commands s)
    ≡ record { image = run_canvas s; bytes = run_on s l; dropped = job_dropped s }
