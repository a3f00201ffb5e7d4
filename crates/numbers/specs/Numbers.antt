-- The numbers that an entry can give, and the largest side.
use Rattle.std.specs.Prelude.{ℕ, Result, Ok, Err}
use Rattle.numbers.specs.declared.refusal.Refusal.{Refusal}
use Rattle.numbers.specs.declared.refusal.Refusal.TheVariants.{NoRoom, TooLarge, WrongLength, NoLayers, OffPaper, TooMany, Short, TooTall, BadCanvas, EmptyArea, BadJob, TooLong, NotTranslated, BadPlan, NoRow, LayerSize}

-- the largest width and height
abbrev pub limit : ℕ
limit = 16384

abbrev pub done : ℕ
done = 0

-- a lent output or canvas buffer is too short
abbrev pub no_room : ℕ
no_room = 1

-- a given or stretched width or height, or a new paper width, above the limit
abbrev pub too_large : ℕ
too_large = 2

-- data length is not the one required
abbrev pub wrong_length : ℕ
wrong_length = 3

-- zero colours, empty data
abbrev pub no_layers : ℕ
no_layers = 4

-- x ≥ W, or growth off and y ≥ H; for a flip, x + w > W
abbrev pub off_paper : ℕ
off_paper = 5

-- more pixels than w·h
abbrev pub too_many : ℕ
too_many = 6

-- cropping would read a pixel not given
abbrev pub short : ℕ
short = 7

-- resulting height above the limit, or a height asked for above it
abbrev pub too_tall : ℕ
too_tall = 8

-- W or H above the limit, W = 0 with H > 0, or buffer under 4·W·H bytes
abbrev pub bad_canvas : ℕ
bad_canvas = 9

-- flip or border of zero width or height
abbrev pub empty_area : ℕ
empty_area = 10

-- bytes break the job rules
abbrev pub bad_job : ℕ
bad_job = 11

-- more than 64 commands
abbrev pub too_long : ℕ
too_long = 12

-- a job for translation holds a flip
abbrev pub not_translated : ℕ
not_translated = 13

-- a plan breaks the plan rules
abbrev pub bad_plan : ℕ
bad_plan = 14

-- row ≥ plan height
abbrev pub no_row : ℕ
no_row = 15

-- in merging, a later layer is wider or taller
abbrev pub layer_size : ℕ
layer_size = 16

-- the number of a refusal
abbrev pub number_of : Refusal → ℕ
number_of NoRoom = no_room
number_of TooLarge = too_large
number_of WrongLength = wrong_length
number_of NoLayers = no_layers
number_of OffPaper = off_paper
number_of TooMany = too_many
number_of Short = short
number_of TooTall = too_tall
number_of BadCanvas = bad_canvas
number_of EmptyArea = empty_area
number_of BadJob = bad_job
number_of TooLong = too_long
number_of NotTranslated = not_translated
number_of BadPlan = bad_plan
number_of NoRow = no_row
number_of LayerSize = layer_size

-- the number of an answer: 0 where it is done
abbrev pub number : {A : Type 0} → Result A Refusal → ℕ
number (Ok a) = done
number (Err why) = number_of why
