-- The records of a job: 01, "Jobs". s is the job's bytes throughout.
use Rattle.std.specs.Prelude.{ℕ, zero, suc, ◌+◌, ◌-◌, ◌*◌, ◌≤◌, List, ◌||◌, length, get_or, ltb, leb, if◌then◌else◌}
use Rattle.colour.specs.Colour.{rgba}
use Rattle.colour.specs.declared.RGBA.{RGBA}
use Rattle.job.specs.declared.records.Rec.{Rec}
use Rattle.job.specs.declared.records.Rec.TheVariants.{Record, Bad, End}

-- little-endian: a byte, a u16, a u32 and a colour at a position. A byte past the end reads as 0
abbrev pub byte_at : List ℕ → ℕ → ℕ
byte_at s at = get_or s at 0

-- every element is a byte, as in a slice of bytes
abbrev pub Bytes : List ℕ → Type 0
Bytes s = (i : ℕ) → byte_at s i ≤ 255

unfoldable pub le16 : List ℕ → ℕ → ℕ
le16 s at = byte_at s at + byte_at s (at + 1) * 256

unfoldable pub le32 : List ℕ → ℕ → ℕ
le32 s at = byte_at s at + byte_at s (at + 1) * 256 + byte_at s (at + 2) * 65536 + byte_at s (at + 3) * 16777216

unfoldable pub rgba_at : List ℕ → ℕ → RGBA
rgba_at s at = rgba (byte_at s at) (byte_at s (at + 1)) (byte_at s (at + 2)) (byte_at s (at + 3))

-- what stands at a position: the end; a record, which is the length u32 of what follows it, the kind u16, and the body; or what is neither
unfoldable pub record_at : List ℕ → ℕ → Rec
record_at s at =
    if leb (length s) at then End
    else if ltb (length s) (at + 6) || ltb (le32 s at) 2 || ltb (length s) (at + 4 + le32 s at) then Bad
    else Record (le16 s (at + 4)) (at + 6) (le32 s at - 2) (at + 4 + le32 s at)

-- the records from a position on, each by its kind, where its body starts and how many bytes that has; and how they end
pub data Records : Type 0 where
  ended : Records
  broken : Records
  rec : (kind start size : ℕ) → Records → Records

-- one record, and what `rest` says of the position past it
unfoldable pub record_then : (ℕ → Records) → Rec → Records
record_then rest End = ended
record_then rest Bad = broken
record_then rest (Record kind start size next) = rec kind start size (rest next)

-- at most n records
unfoldable pub up_to : ℕ → List ℕ → ℕ → Records
up_to zero s at = ended
up_to (suc n) s at = record_then (up_to n s) (record_at s at)

-- all of them, since none is shorter than a byte
unfoldable pub records : List ℕ → ℕ → Records
records s at = up_to (length s - at) s at
