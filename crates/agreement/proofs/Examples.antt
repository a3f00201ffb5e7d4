-- A job that can be planned, so that demand 3 is about some jobs, and what its commands draw: more than the first. Assumes nothing.
use Prim.Native.Nat.{ℕ, zero, suc}
use mathlib.Core.Path.{◌≡◌, refl}
use mathlib.Core.List.{List, [], ◌∷◌, ◌++◌}
use mathlib.Core.Bool.{Bool, true, ◌&&◌}
use native.Mathlib.Omega.{arith}
use borrow.Author.Tests.{leb-true}
use lib.Dec.{leb}
use Rattle.numbers.specs.Numbers.{off_paper}
use Rattle.colour.specs.Channel.{blend_byte}
use Rattle.colour.specs.Colour.{blended_at}
use Rattle.colour.proofs.Tests.{and_both}
use Rattle.dots.specs.Dots.{within, drawn}
use Rattle.bits.specs.Bits.{bit_alpha}
use Rattle.images.specs.Formats.{alpha_of, bytes_of}
use Rattle.images.specs.Stretching.{factor, pixel_of, is_large}
use Rattle.areas.specs.Areas.{in_area}
use Rattle.job.specs.Records.{le16, le32, rgba_at, record_at, record_then, up_to, records, Bytes}
use Rattle.job.specs.Commands.{sound_paper, sound_command, sound_commands, sound_records, sound, command_at, commands_in, after_paper, commands}
use Rattle.refusals.specs.Refusals.{first, tall_refusal, side_refusal, off_refusal}
use Rattle.job.specs.Dropping.{put_reason, image_reason, reason_of, height_after, next_height, height_from, kept_from, dropped_from, job_height, kept_of, job_dropped}
use Rattle.plan.specs.Plan.{is_flip, has_flip}
use Rattle.runs.specs.Pictures.{with_image, with_margin, after, after_all}
use Rattle.runs.specs.Run.{run_picture}
use Rattle.agreement.specs.Agreement.{Plannable}

-- little-endian
u32 : ℕ → List ℕ
u32 n = n ∷ 0 ∷ 0 ∷ 0 ∷ []

black : List ℕ
black = 0 ∷ 0 ∷ 0 ∷ 255 ∷ []

white : List ℕ
white = 255 ∷ 255 ∷ 255 ∷ 255 ∷ []

place : ℕ → ℕ → ℕ → ℕ → List ℕ
place x y w h = u32 x ++ u32 y ++ u32 w ++ u32 h

job : List ℕ
job =
    -- paper 4 dots wide
    u32 10 ++ (1 ∷ 0 ∷ []) ++ u32 4 ++ white
    -- two dots of row 0
    ++ u32 23 ++ (2 ∷ 0 ∷ []) ++ place 0 0 2 1 ++ black ++ (0 ∷ [])
    -- an image of the bits 101 in row 1, and a margin of two rows
    ++ u32 26 ++ (3 ∷ 0 ∷ []) ++ place 1 1 3 1 ++ (1 ∷ 1 ∷ []) ++ black ++ (0 ∷ 160 ∷ [])
    ++ u32 6 ++ (4 ∷ 0 ∷ []) ++ u32 2
    -- off the paper; and the last dot of row 0, which is a new one
    ++ u32 23 ++ (2 ∷ 0 ∷ []) ++ place 4 0 1 1 ++ black ++ (0 ∷ [])
    ++ u32 23 ++ (2 ∷ 0 ∷ []) ++ place 3 0 9 1 ++ black ++ (0 ∷ [])

small : List ℕ → Bool
small [] = true
small (b ∷ l) = leb b 255 && small l

small_bytes : (l : List ℕ) → small l ≡ true → Bytes l
unfolding small
small_bytes [] e i = omega arith
small_bytes (b ∷ l) e zero = leb-true b 255 (and_both (leb b 255) (small l) e).0
small_bytes (b ∷ l) e (suc i) = small_bytes l (and_both (leb b 255) (small l) e).1 i

plannable : Plannable job
unfolding small job place u32 black white sound sound_records sound_paper sound_commands sound_command records up_to record_then record_at le16 le32 rgba_at commands after_paper commands_in command_at has_flip is_flip
plannable = record { bytes = small_bytes job refl; is-sound = refl; few = leb-true 5 64 refl; plain = refl }

-- its height, its dropped list, and the reds of its rows: more than its first command is obeyed
reds : ℕ → List ℕ
reds j = (run_picture job 0 j).r ∷ (run_picture job 1 j).r ∷ (run_picture job 2 j).r ∷ (run_picture job 3 j).r ∷ []

obeyed : (job_height job ≡ 4)
    × (job_dropped job ≡ record { place = 3; reason = off_paper } ∷ [])
    × (reds 0 ≡ 255 ∷ 255 ∷ 255 ∷ 0 ∷ [])
    × (reds 1 ≡ 255 ∷ 255 ∷ 255 ∷ 255 ∷ [])
    × (reds 2 ≡ 0 ∷ 0 ∷ 255 ∷ 255 ∷ [])
    × (reds 3 ≡ 255 ∷ 0 ∷ 255 ∷ 0 ∷ [])
unfolding reds job place u32 black white records up_to record_then record_at le16 le32 rgba_at commands after_paper commands_in command_at job_height height_from job_dropped dropped_from kept_of kept_from next_height reason_of put_reason image_reason first tall_refusal side_refusal off_refusal height_after is_large bytes_of factor run_picture after_all after with_image with_margin in_area within drawn blended_at blend_byte pixel_of alpha_of bit_alpha
obeyed = (refl, refl, refl, refl, refl, refl)
