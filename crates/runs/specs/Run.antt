-- The run of a job on a canvas: 01, "Jobs".
use Rattle.std.specs.Prelude.{ℕ, List, [], true, false, length, eqb, if◌then◌else◌}
use Rattle.numbers.specs.Numbers.{done}
use Rattle.colour.specs.Colour.{blank}
use Rattle.job.specs.declared.dropping.Dropped.{Dropped}
use Rattle.job.specs.Commands.{paper_width, paper_color}
use Rattle.job.specs.Dropping.{job_refusal, job_height, job_dropped, kept_of, no_dropped, filled_up}
use Rattle.thermal_image.specs.declared.ThermalImage.{ThermalImage}
use Rattle.refusals.specs.Refusals.{first, room_refusal}
use Rattle.thermal_image.specs.Canvas.{canvas, written}
use Rattle.runs.specs.declared.Ran.{Ran}
use Rattle.runs.specs.Pictures.{Picture, after_all, shown}

-- order 11, 12, 1, on a buffer of n bytes. NO_ROOM is decided for the final height
unfoldable pub run_refusal : List ℕ → ℕ → ℕ
run_refusal s n = first (job_refusal s) (room_refusal (paper_width s) (job_height s) n)

-- the picture starts as paper, and each kept command is obeyed
unfoldable pub run_picture : List ℕ → Picture
run_picture s = after_all s (paper_color s) (kept_of s) (λ _ _. paper_color s)

-- a run starts at height 0 with growth on, which stays on
unfoldable pub run_canvas : List ℕ → ThermalImage
run_canvas s = canvas (paper_width s) (job_height s) true (paper_color s)

abbrev pub ran_with : ℕ → ThermalImage → List Dropped → Ran
ran_with number t ds = record { number = number; image = t; dropped_count = length ds; dropped = filled_up no_dropped ds }

-- a refusal gives zeros beside its number, and writes nothing
abbrev pub refused_run : ℕ → Ran
refused_run number = ran_with number (canvas 0 0 false blank) []

unfoldable pub ran : List ℕ → ℕ → Ran
ran s n = if eqb (run_refusal s n) done then ran_with done (run_canvas s) (job_dropped s) else refused_run (run_refusal s n)

unfoldable pub run_on : List ℕ → List ℕ → List ℕ
run_on s l = written (run_refusal s (length l)) l (shown (paper_width s) (job_height s) (run_picture s) l)
