-- `areas::flip::flip_rows` meets its contract. Assumes nothing.
use Rattle.std.proofs.Common.{◌*◌}
use Rattle.areas.proofs.Flips.{Pair}
use Rattle.areas.proofs.flip.flip_rows.Given as goal

abbrev pub invariant-loop-p : goal.invariant-loop-p
invariant-loop-p l = Pair l.top l.bottom l.w l.initial.buf (l.p * 256) l.buf
