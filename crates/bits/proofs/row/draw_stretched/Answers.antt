use Rattle.std.proofs.Common.{arith}
use Rattle.std.proofs.Math.Nat.{mod-lt}
use Rattle.bits.proofs.Stretching.{stretch-start, stretch-shown, stretch-next, stretch-end}
use Rattle.bits.proofs.row.draw_stretched.Goals as goal

pub loop-i-init : goal.loop-i-init
loop-i-init g c = stretch-start _ _ _ _ _ _ _

pub bit_at-bit-requires : goal.bit_at-bit-requires
bit_at-bit-requires g c =
    (stretch-shown _ _ _ _ _ _ _ c.requires.1 c.requires.3 c.loop-i.invariant c.loop-i-test.true).1

pub draw_bit-requires : goal.draw_bit-requires
draw_bit-requires g c = (omega arith, rw c.bit_at-bit.ensures (mod-lt _ (omega arith)))

pub overflow_add-x : goal.overflow_add-x
overflow_add-x g c =
    omega (arith, (stretch-shown _ _ _ _ _ _ _ c.requires.1 c.requires.3 c.loop-i.invariant c.loop-i-test.true).0)

pub loop-i-preserved : goal.loop-i-preserved
loop-i-preserved g c =
    stretch-next _ _ _ _ _ _ _ c.loop-i.invariant c.loop-i-test.true c.min-n.ensures c.bit_at-bit.ensures c.draw_bit.ensures

pub returns : goal.returns
returns g c = stretch-end _ _ _ _ _ _ _ c.loop-i.invariant c.loop-i-test.false
