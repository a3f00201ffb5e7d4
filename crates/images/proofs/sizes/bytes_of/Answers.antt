-- `images::sizes::bytes_of` meets its contract. Assumes nothing.
use Rattle.std.proofs.Common.{arith}
use Rattle.numbers.proofs.Sides.{area}
use Rattle.bits.specs.Bits.{row_bytes}
use Rattle.images.specs.Formats.{bytes_of}
use Rattle.images.proofs.sizes.bytes_of.Goals as goal

pub overflow_mul-result : goal.overflow_mul-result
overflow_mul-result c = rw c.row_bytes.ensures (omega (arith, area {a = row_bytes c.args.w} (omega arith) c.requires.1))

pub overflow_mul-result-in-Alphas : goal.overflow_mul-result-in-Alphas
overflow_mul-result-in-Alphas c = omega (arith, area c.requires.0 c.requires.1)

pub overflow_mul-result-in-Columns : goal.overflow_mul-result-in-Columns
overflow_mul-result-in-Columns c = rw c.row_bytes-in-Columns.ensures (omega (arith, area {b = row_bytes c.args.h} c.requires.0 (omega arith)))

pub returns-in-Bits : goal.returns-in-Bits
unfolding bytes_of
returns-in-Bits c = rw (c.in-Bits.is, c.row_bytes.ensures)

pub returns-in-Alphas : goal.returns-in-Alphas
unfolding bytes_of
returns-in-Alphas c = rw c.in-Alphas.is

pub returns-in-Columns : goal.returns-in-Columns
unfolding bytes_of
returns-in-Columns c = rw (c.in-Columns.is, c.row_bytes-in-Columns.ensures)
