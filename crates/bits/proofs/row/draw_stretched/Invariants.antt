-- A stretched row meets its contract. Assumes nothing.
use Rattle.std.proofs.Common.{◌-◌}
use Rattle.bits.proofs.Stretching.{Stretch}
use Rattle.bits.proofs.row.draw_stretched.Given as goal

abbrev pub invariant-loop-i : goal.invariant-loop-i
invariant-loop-i g l = Stretch (g.B.BitBrush.dot l.brush) l.data l.from l.fx l.at l.count l.initial.buf l.x l.i l.buf

abbrev pub decreases-loop-i : goal.decreases-loop-i
decreases-loop-i g l = l.count - l.i
