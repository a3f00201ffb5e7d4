-- `pixels::bytes::draw_some` meets its contract. Assumes nothing.
use Rattle.std.proofs.Common.{◌*◌}
use Rattle.pixels.proofs.ByteWise.{Draws}
use Rattle.pixels.proofs.bytes.draw_some.Given as goal

abbrev pub invariant-loop-j : goal.invariant-loop-j
invariant-loop-j l = Draws l.multiply l.ink l.alpha l.to (l.count * 4) l.initial.buf l.j l.buf
