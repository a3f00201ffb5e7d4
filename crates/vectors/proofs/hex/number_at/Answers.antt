use Rattle.std.proofs.Common.{arith, rules, ◌+◌, slice_index_or}
use Rattle.vectors.specs.Hex.{number_at}
use Rattle.vectors.proofs.Digits.{digit-below, number-next, number-room}
use Rattle.vectors.proofs.hex.number_at.Goals as goal

pub loop-i-init : goal.loop-i-init
unfolding number_at
loop-i-init c = search rules

pub overflow_mul-n : goal.overflow_mul-n
overflow_mul-n c = record { fits = omega (arith, number-room c.args.s.now c.args.at c.loop-i.i (omega arith)) }

pub overflow_add-n : goal.overflow_add-n
overflow_add-n c =
    let s = c.args.s.now in let at = c.args.at in let i = c.loop-i.i in record { fits = omega (arith, number-room s at i (omega arith), digit-below (slice_index_or s (at + i) 0)) }

pub loop-i-preserved : goal.loop-i-preserved
loop-i-preserved c = rw (number-next, ← c.loop-i.invariant, ← c.digit.ensures)
