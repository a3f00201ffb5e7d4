-- 01, "The listing": its worked example, as a computed check of all that the listing stands on. Assumes nothing.
use Prim.Native.Nat.{ℕ}
use mathlib.Core.Path.{◌≡◌, refl}
use mathlib.Core.List.{List, [], ◌∷◌}
use lib.Ieee.{of_int, mul, div}
use Rattle.colour.specs.Channel.{blend_byte, product, round_away, multiply_byte}
use Rattle.colour.specs.Colour.{blended_at, multiplied}
use Rattle.dots.specs.Dots.{chan, change, drawn, paint, tab, within}
use Rattle.bits.specs.Bits.{bit_alpha}
use Rattle.images.specs.Formats.{alpha_of, bytes_of}
use Rattle.images.specs.Stretching.{factor, is_large, pixel_of}
use Rattle.areas.specs.Areas.{in_area}
use Rattle.job.specs.Records.{le16, le32, record_then, record_at, records, rgba_at, up_to}
use Rattle.job.specs.Commands.{after_paper, command_at, commands, commands_in, sound, sound_command, sound_commands, sound_paper, sound_records}
use Rattle.refusals.specs.Refusals.{first, tall_refusal, side_refusal, off_refusal}
use Rattle.job.specs.Dropping.{dropped_from, height_after, height_from, image_reason, job_dropped, job_height, job_refusal, kept_from, kept_of, next_height, number_of, filled_up, put_reason, reason_of}
use Rattle.entries.specs.Entries.{entry_on, entry_pixel, good_entry, good_image, good_kind, good_stretch, image_entry, image_pixel, rectangle_entry}
use Rattle.plan.specs.Plan.{entries_of, has_flip, is_flip, margins, plan_of, translate_refusal, translated}
use Rattle.rows.specs.Rows.{good_sizes, good_entries, good_plan, refusal_of, entries_on, row_on, has_ink, ink, row_given, firsts}
use Rattle.listing.specs.Listing.{ascii, digits_by, digits, part, paper_line, row_line, refused_line, listed, first_line, ink_of, row_lines, listing}

job : List ℕ
job =
    0x0A ∷ 0 ∷ 0 ∷ 0 ∷ 1 ∷ 0 ∷ 0x0A ∷ 0 ∷ 0 ∷ 0 ∷ 255 ∷ 255 ∷ 255 ∷ 255
    ∷ 0x1B ∷ 0 ∷ 0 ∷ 0 ∷ 3 ∷ 0 ∷ 0 ∷ 0 ∷ 0 ∷ 0 ∷ 0 ∷ 0 ∷ 0 ∷ 0 ∷ 3 ∷ 0 ∷ 0 ∷ 0 ∷ 2 ∷ 0 ∷ 0 ∷ 0 ∷ 2 ∷ 1 ∷ 0 ∷ 0 ∷ 0 ∷ 255 ∷ 1 ∷ 0xA0 ∷ 0x40
    ∷ 0x17 ∷ 0 ∷ 0 ∷ 0 ∷ 2 ∷ 0 ∷ 8 ∷ 0 ∷ 0 ∷ 0 ∷ 1 ∷ 0 ∷ 0 ∷ 0 ∷ 5 ∷ 0 ∷ 0 ∷ 0 ∷ 1 ∷ 0 ∷ 0 ∷ 0 ∷ 0 ∷ 0 ∷ 0 ∷ 255 ∷ 1
    ∷ 6 ∷ 0 ∷ 0 ∷ 0 ∷ 4 ∷ 0 ∷ 1 ∷ 0 ∷ 0 ∷ 0
    ∷ 0x17 ∷ 0 ∷ 0 ∷ 0 ∷ 2 ∷ 0 ∷ 0x0A ∷ 0 ∷ 0 ∷ 0 ∷ 0 ∷ 0 ∷ 0 ∷ 0 ∷ 1 ∷ 0 ∷ 0 ∷ 0 ∷ 1 ∷ 0 ∷ 0 ∷ 0 ∷ 0 ∷ 0 ∷ 0 ∷ 255 ∷ 1
    ∷ []

example : listing job ≡ ascii "paper 10 height 3 dropped 1\nrow 0 ink 0\nrow 1 ink 4\nrow 2 ink 4\n"
unfolding job listing listed first_line row_lines ink_of paper_line row_line part digits digits_by ascii translated translate_refusal job_refusal number_of sound sound_records sound_paper sound_commands sound_command records up_to record_then record_at le16 le32 rgba_at commands commands_in command_at after_paper has_flip is_flip plan_of job_height height_from job_dropped dropped_from kept_of kept_from next_height height_after reason_of put_reason image_reason first tall_refusal side_refusal off_refusal factor is_large bytes_of margins entries_of rectangle_entry image_entry filled_up row_given refusal_of good_plan good_sizes good_entries good_entry good_kind good_image good_stretch firsts row_on ink has_ink entries_on entry_on entry_pixel image_pixel pixel_of alpha_of bit_alpha in_area drawn change within paint tab chan blended_at blend_byte multiplied multiply_byte round_away product of_int mul div
example = refl

empty : listing [] ≡ ascii "refused 11\n"
unfolding listing listed first_line row_lines refused_line part digits digits_by ascii translated translate_refusal job_refusal number_of sound sound_records records up_to record_at commands
empty = refl
