-- Stamping a byte meets its contract. The loop's invariant: the bytes from `from` to `from + j` are stamped. Assumes nothing.
use Rattle.colour.specs.Colour.{with_alpha}
use Rattle.dots.specs.Tables.{lanes, factors, terms}
use Rattle.bits.proofs.Stamping.{Stamps}
use Rattle.bits.proofs.stamp.StampBitBrush.draw_byte.Given as goal

abbrev pub invariant-loop-j : goal.invariant-loop-j
invariant-loop-j l =
    let t = l.self.mix.multiply in
    let c = with_alpha l.self.color 255 in
    Stamps l.byte l.masks (lanes (factors t c)) (lanes (terms t c)) l.from l.j l.initial.buf l.buf
