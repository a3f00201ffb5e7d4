-- `dots::multiply::multiply_byte` meets its contract. Assumes nothing.
use native.Mathlib.Omega.{arith}
use mathlib.Core.Path.{◌∙◌}
use Rattle.dots.proofs.Scaled.{factor-fits, scaled}
use Rattle.dots.proofs.multiply.multiply_byte.Goals as goal

pub overflow_mul-c : goal.overflow_mul-c
overflow_mul-c c = omega (arith, factor-fits c.args.c c.args.a (omega arith) (omega arith))

pub scale_byte-requires : goal.scale_byte-requires
scale_byte-requires c = factor-fits c.args.c c.args.a (omega arith) (omega arith)

pub returns : goal.returns
returns c = let a = c.args in c.scale_byte.ensures ∙ scaled a.s a.c a.a (omega arith) (omega arith) (omega arith)
