use Rattle.std.proofs.Common.{length}
use Rattle.rows.proofs.Lines.{Applied}
use Rattle.rows.proofs.draw_rows.Given as goal

abbrev pub invariant-loop-e : goal.invariant-loop-e
invariant-loop-e l = Applied l.data l.width l.first l.top l.count (length l.entries) l.entries l.initial.buf l.e-index l.buf
