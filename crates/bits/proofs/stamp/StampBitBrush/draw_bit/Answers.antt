-- Stamping a bit meets its contract. Assumes nothing.
use Rattle.bits.proofs.Stamping.{bit_kept, bit-mixed}
use Rattle.bits.proofs.stamp.StampBitBrush.draw_bit.Goals as goal

pub returns-then-bit-ne0 : goal.returns-then-bit-ne0
returns-then-bit-ne0 c =
    let s = c.args.self in
    bit-mixed _ s.color _ _ _ c.requires.1 c.if-bit-ne0.true s.full c.draw_dots.ensures

pub returns-else-bit-ne0 : goal.returns-else-bit-ne0
returns-else-bit-ne0 c = bit_kept _ c.args.self.color _ _ _ c.if-bit-ne0.false
