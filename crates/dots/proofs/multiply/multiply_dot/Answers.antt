-- `dots::multiply::multiply_dot` meets its contract. Assumes nothing.
use native.Mathlib.Omega.{arith}
use Rattle.colour.proofs.Laws.{multiplied-some}
use Rattle.dots.proofs.multiply.multiply_dot.Goals as goal

pub returns : goal.returns
returns c =
    multiplied-some c.args.c c.args.s (λ e. omega (arith, c.requires)) c.multiply_byte.ensures c.multiply_byte-2.ensures c.multiply_byte-3.ensures
