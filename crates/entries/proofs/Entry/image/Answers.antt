-- `entries::Entry::image` meets its contract. Assumes nothing.
use Rattle.std.proofs.Common.{arith}
use Rattle.images.proofs.Sides.{factor-range}
use Rattle.entries.proofs.Entry.image.Goals as goal

pub overflow_cast-result : goal.overflow_cast-result
overflow_cast-result c = omega (arith, factor-range c.args.sx c.factor_of-fx.ensures (omega arith))

pub overflow_cast-result-2 : goal.overflow_cast-result-2
overflow_cast-result-2 c = omega (arith, factor-range c.args.sy c.factor_of-fy.ensures (omega arith))
