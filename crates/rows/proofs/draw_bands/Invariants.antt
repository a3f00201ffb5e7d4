use Rattle.rows.proofs.Lines.{Banded}
use Rattle.rows.proofs.draw_bands.Given as goal

abbrev pub invariant-loop-j : goal.invariant-loop-j
invariant-loop-j l = Banded l.data l.width l.paper_color l.entries l.first l.count l.initial.buf l.j l.buf
