-- Putting a bit meets its contract. Assumes nothing.
use Rattle.std.proofs.Common.{◌∙◌}
use Rattle.bits.proofs.Unpacking.{bit-left, bit-filled}
use Rattle.bits.proofs.unpack.PutBitBrush.draw_bit.Goals as goal

pub returns-then-self-bit : goal.returns-then-self-bit
returns-then-self-bit c = bit-left _ _ c.args.self.color _ _ _ c.if-self-bit.true

pub returns : goal.returns
returns c =
    c.fill_run.ensures ∙ rw c.with_alpha.ensures (bit-filled _ _ c.args.self.color _ _ _ c.requires.1 c.if-self-bit.false)
