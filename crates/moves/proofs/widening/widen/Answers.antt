use Rattle.std.proofs.Common.{◌≡◌, arith}
use Rattle.moves.proofs.Rows.{back-next, back_end}
use Rattle.dots.proofs.Laws.{run_none}
use Rattle.moves.proofs.widening.widen.Goals as goal

pub loop-r-init : goal.loop-r-init
loop-r-init c = run_none _ _ _

pub loop-r-preserved : goal.loop-r-preserved
loop-r-preserved c =
    back-next _ _ _ _ _ _ c.loop-r-test.true c.loop-r.auto.r c.requires.0 c.loop-r.invariant c.widen_row.ensures

pub returns : goal.returns
returns c =
    let e : c.loop-r.r ≡ 0 = omega arith in
    back_end _ _ _ _ _ _ (rw e at c.loop-r.invariant)
