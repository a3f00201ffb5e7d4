-- `pixels::bytes::draw_byte` meets its contract. Assumes nothing.
use Rattle.std.proofs.Common.{sym, ◌∙◌, ⊎_elim, true≢false, arith}
use Rattle.dots.proofs.Scaled.{factor-fits}
use Rattle.pixels.proofs.ByteWise.{byte-blended, byte-scaled, byte_full}
use Rattle.pixels.proofs.bytes.draw_byte.Goals as goal

pub returns-then-full : goal.returns-then-full
returns-then-full c =
    byte_full c.args.s c.args.c c.args.a (omega arith) (omega arith) c.if-multiply.true
    (⊎_elim (λ e. absurd (true≢false (sym c.if-full.true ∙ e))) (λ e. e) c.requires) c.mix_byte.ensures

pub overflow_mul-c : goal.overflow_mul-c
overflow_mul-c c = omega (arith, factor-fits c.args.c c.args.a (omega arith) (omega arith))

pub scale_byte-requires : goal.scale_byte-requires
scale_byte-requires c = factor-fits c.args.c c.args.a (omega arith) (omega arith)

pub returns-then-multiply : goal.returns-then-multiply
returns-then-multiply c = byte-scaled _ _ _ c.if-multiply.true c.scale_byte.ensures

pub returns : goal.returns
returns c = byte-blended _ _ _ c.if-multiply.false c.blend_channel.ensures
