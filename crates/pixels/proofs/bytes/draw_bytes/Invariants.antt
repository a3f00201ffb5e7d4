-- `pixels::bytes::draw_bytes` meets its contract. Assumes nothing.
use Rattle.std.proofs.Common.{◌*◌}
use Rattle.pixels.proofs.Runs.{Drawn}
use Rattle.pixels.proofs.bytes.draw_bytes.Given as goal

abbrev pub invariant-loop-b : goal.invariant-loop-b
invariant-loop-b l = Drawn l.multiply l.pixels l.from l.at l.count l.initial.buf (l.b * 16) l.buf
