-- `images::formats::alpha_at` meets its contract. Assumes nothing.
use mathlib.Core.Path.{◌∙◌}
use Prim.Native.Nat.{◌+◌, ◌*◌, ◌/◌, ◌<◌}
use native.Mathlib.Omega.{arith}
use lib.ListN.{length}
use Rattle.images.specs.Formats.{alpha_of}
use Rattle.images.proofs.Places.{in_told}
use Rattle.images.proofs.formats.alpha_at.Goals as goal
use Rattle.images.proofs.formats.alpha_at.Goals.{After-row_bytes, In-Alphas}

in-bits : (c : After-row_bytes)
    → c.args.y * c.row_bytes.result + c.args.x / 8 < length c.args.«data».now
in-bits c =
    rw c.row_bytes.ensures (in_told c.args.w c.args.h c.args.x c.args.y c.in-Bits.is c.requires.2 c.requires.3 c.requires.4)

in-alphas : (c : In-Alphas)
    → c.args.y * c.args.w + c.args.x < length c.args.«data».now
in-alphas c =
    in_told c.args.w c.args.h c.args.x c.args.y c.in-Alphas.is c.requires.2 c.requires.3 c.requires.4

pub overflow_mul-y : goal.overflow_mul-y
overflow_mul-y c = omega (arith, in-bits (goal.at.overflow_mul-y c).After-row_bytes)

pub unpack_bytes-requires : goal.unpack_bytes-requires
unpack_bytes-requires c = in-bits (goal.at.unpack_bytes-requires c).After-row_bytes

pub overflow_mul-result : goal.overflow_mul-result
overflow_mul-result c = omega (arith, in-alphas (goal.at.overflow_mul-result c).In-Alphas)

pub overflow_add-result : goal.overflow_add-result
overflow_add-result c = omega (arith, in-alphas (goal.at.overflow_add-result c).In-Alphas)

pub bounds-data-y : goal.bounds-data-y
bounds-data-y c = in-alphas (goal.at.bounds-data-y c).In-Alphas

pub column_to_bytes-requires : goal.column_to_bytes-requires
column_to_bytes-requires c =
    (c.requires.1, omega arith, in_told c.args.w c.args.h c.args.x c.args.y c.in-Columns.is c.requires.2 c.requires.3 c.requires.4)

pub returns-in-Bits : goal.returns-in-Bits
unfolding alpha_of
returns-in-Bits c = rw c.in-Bits.is (c.unpack_bytes.ensures ∙ rw c.row_bytes.ensures)

pub returns-in-Alphas : goal.returns-in-Alphas
unfolding alpha_of
returns-in-Alphas c = rw c.in-Alphas.is

pub returns-in-Columns : goal.returns-in-Columns
unfolding alpha_of
returns-in-Columns c = rw c.in-Columns.is c.column_to_bytes.ensures
