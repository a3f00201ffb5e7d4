-- The row meets its contract. The loop's invariant: the dots of the bytes before `x` are drawn on. Assumes nothing.
use Rattle.bits.proofs.Rows.{Done}
use Rattle.bits.proofs.row.draw_eights.Given as goal

abbrev pub invariant-loop-x : goal.invariant-loop-x
invariant-loop-x g l = Done (g.B.BitBrush.dot l.brush) l.data l.from l.at l.count l.initial.buf l.x l.buf
