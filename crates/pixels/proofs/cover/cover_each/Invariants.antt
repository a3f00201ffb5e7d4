-- `pixels::cover::cover_each` meets its contract. Assumes nothing.
use Rattle.std.proofs.Common.{false}
use Rattle.pixels.proofs.Runs.{Drawn}
use Rattle.pixels.proofs.cover.cover_each.Given as goal

abbrev pub invariant-loop-i : goal.invariant-loop-i
invariant-loop-i l = Drawn false l.pixels l.from l.at l.count l.initial.buf l.i l.buf
