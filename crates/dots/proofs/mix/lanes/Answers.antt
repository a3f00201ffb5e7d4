use Rattle.std.proofs.Common.{◌*◌, arith, length-set}
use Rattle.colour.specs.Colour.{rgba}
use Rattle.dots.specs.Tables.{lanes}
use Rattle.dots.proofs.Laws.{tab-ext}
use Rattle.dots.proofs.Mixed.{fill-four}
use Rattle.dots.proofs.mix.lanes.Goals as goal

pub loop-i-preserved : goal.loop-i-preserved
loop-i-preserved c =
    let a = c.args in
    let l = c.loop-i in
    (simp length-set (omega arith), λ j h. fill-four (rgba a.x a.y a.z a.w) l.p (l.i * 4) (omega arith) (omega arith) l.invariant.1 j (omega arith))

pub returns : goal.returns
unfolding lanes
returns c = tab-ext 64 _ c.loop-i.p c.loop-i.invariant.0 (λ j h. c.loop-i.invariant.1 j (omega arith))
