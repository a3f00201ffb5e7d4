-- Sound jobs and their commands: 01, "Jobs".
use Rattle.std.specs.Prelude.{ℕ, ◌+◌, ◌-◌, List, [], ◌∷◌, Bool, true, false, ◌&&◌, leb, eqb, if◌then◌else◌}
use Rattle.numbers.specs.Numbers.{limit}
use Rattle.colour.specs.declared.RGBA.{RGBA}
use Rattle.job.specs.declared.commands.Command.{Command}
use Rattle.job.specs.declared.commands.Command.TheVariants.{Rectangle, Image, Margin, Flip}
use Rattle.job.specs.Records.{byte_at, le32, rgba_at, Records, ended, broken, rec, records}

-- ---- kinds, and how many bytes their bodies have

abbrev pub paper_kind : ℕ
paper_kind = 1

abbrev pub rectangle_kind : ℕ
rectangle_kind = 2

abbrev pub image_kind : ℕ
image_kind = 3

abbrev pub margin_kind : ℕ
margin_kind = 4

abbrev pub flip_kind : ℕ
flip_kind = 5

-- W u32, colour
abbrev pub paper_size : ℕ
paper_size = 8

-- x, y, w, h u32, colour, mode byte
abbrev pub rectangle_size : ℕ
rectangle_size = 21

-- x, y, w, h u32, stretch x and y u8, colour, mode byte; then any number of data bytes
abbrev pub image_size : ℕ
image_size = 23

-- u32
abbrev pub margin_size : ℕ
margin_size = 4

-- x, y, w, h u32
abbrev pub flip_size : ℕ
flip_size = 16

-- ---- soundness. A record has a kind and a body of n bytes from `at` on

-- the paper: W from 1 to the limit
unfoldable pub sound_paper : List ℕ → ℕ → ℕ → ℕ → Bool
sound_paper s kind at n = eqb kind paper_kind && eqb n paper_size && leb 1 (le32 s at) && leb (le32 s at) limit

-- 0 blend, 1 multiply
abbrev pub sound_mode : ℕ → Bool
sound_mode mode = leb mode 1

-- mode 1 multiplies
abbrev pub multiplies : ℕ → Bool
multiplies mode = eqb mode 1

-- a command: a body of exactly its kind's size (an image's may hold any number of data bytes), and a mode of 0 or 1
unfoldable pub sound_command : List ℕ → ℕ → ℕ → ℕ → Bool
sound_command s kind at n =
    if eqb kind rectangle_kind then eqb n rectangle_size && sound_mode (byte_at s (at + 20))
    else if eqb kind image_kind then leb image_size n && sound_mode (byte_at s (at + 22))
    else if eqb kind margin_kind then eqb n margin_size
    else eqb kind flip_kind && eqb n flip_size

unfoldable pub sound_commands : List ℕ → Records → Bool
sound_commands s ended = true
sound_commands s broken = false
sound_commands s (rec kind at n rest) = sound_command s kind at n && sound_commands s rest

-- the paper first, once, and then commands
unfoldable pub sound_records : List ℕ → Records → Bool
sound_records s ended = false
sound_records s broken = false
sound_records s (rec kind at n rest) = sound_paper s kind at n && sound_commands s rest

-- the bytes keep the job rules. Empty input does not
unfoldable pub sound : List ℕ → Bool
sound s = sound_records s (records s 0)

-- ---- what a sound job says

-- the paper's record has 14 bytes, and its body starts at byte 6
abbrev pub commands_start : ℕ
commands_start = 14

abbrev pub paper_width : List ℕ → ℕ
paper_width s = le32 s 6

abbrev pub paper_color : List ℕ → RGBA
paper_color s = rgba_at s 10

abbrev pub rectangle_at : List ℕ → ℕ → Command
rectangle_at s at = Rectangle (le32 s at) (le32 s (at + 4)) (le32 s (at + 8)) (le32 s (at + 12)) (rgba_at s (at + 16)) (byte_at s (at + 20))

-- the bit rows are what is left of the body
abbrev pub image_at : List ℕ → ℕ → ℕ → Command
image_at s at n =
    Image (le32 s at) (le32 s (at + 4)) (le32 s (at + 8)) (le32 s (at + 12)) (byte_at s (at + 16)) (byte_at s (at + 17)) (rgba_at s (at + 18)) (byte_at s (at + 22))
    (at + image_size) (n - image_size)

abbrev pub flip_at : List ℕ → ℕ → Command
flip_at s at = Flip (le32 s at) (le32 s (at + 4)) (le32 s (at + 8)) (le32 s (at + 12))

-- the command of a sound record
unfoldable pub command_at : List ℕ → ℕ → ℕ → ℕ → Command
command_at s kind at n =
    if eqb kind rectangle_kind then rectangle_at s at
    else if eqb kind image_kind then image_at s at n
    else if eqb kind margin_kind then Margin (le32 s at)
    else flip_at s at

unfoldable pub commands_in : List ℕ → Records → List Command
commands_in s ended = []
commands_in s broken = []
commands_in s (rec kind at n rest) = command_at s kind at n ∷ commands_in s rest

-- the records after the paper
unfoldable pub after_paper : Records → Records
after_paper ended = ended
after_paper broken = broken
after_paper (rec kind at n rest) = rest

unfoldable pub commands : List ℕ → List Command
commands s = commands_in s (after_paper (records s 0))
