use Rattle.std.proofs.Common.{◌∙◌, arith, length-set}
use Rattle.colour.specs.Channel.{multiply_byte}
use Rattle.dots.specs.Tables.{multiply_table}
use Rattle.dots.proofs.Laws.{tab-ext}
use Rattle.dots.proofs.Bytes.{fill_step}
use Rattle.dots.proofs.Scaled.{scaled}
use Rattle.dots.proofs.multiply.multiply_table.Goals as goal

pub loop-s-preserved : goal.loop-s-preserved
loop-s-preserved c =
    let l = c.loop-s in
    let a = c.args in
    (simp length-set (omega arith), fill_step l.t l.s _ (λ i. multiply_byte i a.c a.a) (omega arith) l.invariant.1 (c.scale_byte.ensures ∙ scaled l.s a.c a.a (omega arith) (omega arith) (omega arith)))

pub returns : goal.returns
unfolding multiply_table
returns c = tab-ext 256 _ c.loop-s.t c.loop-s.invariant.0 (λ i h. c.loop-s.invariant.1 i (omega arith))
