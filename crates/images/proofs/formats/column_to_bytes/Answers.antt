-- `images::formats::column_to_bytes` meets its contract. Assumes nothing.
use mathlib.Core.Path.{◌∙◌}
use Prim.Native.Nat.{◌+◌, ◌*◌, ◌/◌, ◌<◌}
use native.Mathlib.Omega.{arith}
use lib.ListN.{length}
use Rattle.images.proofs.formats.column_to_bytes.Goals as goal
use Rattle.images.proofs.formats.column_to_bytes.Goals.{After-row_bytes}

known : (c : After-row_bytes) → c.args.x * c.row_bytes.result + c.args.y / 8 < length c.args.«data».now
known c = rw c.row_bytes.ensures c.requires.2

pub overflow_mul-x : goal.overflow_mul-x
overflow_mul-x c = omega (arith, known (goal.at.overflow_mul-x c).After-row_bytes)

pub unpack_bytes-requires : goal.unpack_bytes-requires
unpack_bytes-requires c = known (goal.at.unpack_bytes-requires c).After-row_bytes

pub returns : goal.returns
returns c = c.unpack_bytes.ensures ∙ rw c.row_bytes.ensures
