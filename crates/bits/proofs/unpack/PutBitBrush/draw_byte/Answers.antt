use Rattle.std.proofs.Common.{refl, arith}
use Rattle.dots.specs.Dots.{tab}
use Rattle.bits.proofs.Unpacking.{byte-start, byte_next}
use Rattle.bits.proofs.unpack.PutBitBrush.draw_byte.Goals as goal

pub loop-k-init : goal.loop-k-init
loop-k-init c = byte-start _ _ c.args.self.color _ _

pub loop-k-preserved : goal.loop-k-preserved
unfolding tab
loop-k-preserved c =
    byte_next _ _ c.args.self.color _ _ (omega arith) (omega arith) refl c.loop-k.invariant c.get_dot-old.ensures c.bit_dot.ensures c.set_dot.ensures
