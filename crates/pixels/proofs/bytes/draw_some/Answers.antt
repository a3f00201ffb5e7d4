use Rattle.std.proofs.Common.{arith, rules}
use Rattle.pixels.proofs.ByteWise.{full-alphas, draws-start, draws-next, draws-end}
use Rattle.pixels.proofs.bytes.draw_some.Goals as goal

pub loop-j-init : goal.loop-j-init
loop-j-init c = draws-start _ _ _ _ _ _

pub draw_byte-requires : goal.draw_byte-requires
draw_byte-requires c =
    full-alphas _ _ _ _ (omega arith) c.spread.ensures.alpha_after c.requires.fact _ c.loop-j-test.true

pub loop-j-preserved : goal.loop-j-preserved
loop-j-preserved c = draws-next _ _ _ _ _ _ (omega arith) c.loop-j.invariant c.loop-j-test.true c.draw_byte.ensures

pub returns : goal.returns
returns c =
    draws-end _ _ _ _ _ _ _ _ (omega arith) (omega arith) (omega arith) (search rules) (search rules)
    c.spread.ensures.ink_after c.spread.ensures.alpha_after c.loop-j.invariant c.loop-j-test.false
