use Rattle.std.proofs.Common.{◌≡◌, arith}
use Rattle.moves.proofs.Bytes.{over-empty}
use Rattle.moves.proofs.Runs.{moved-next, moved-end}
use Rattle.moves.proofs.run.move_run.Goals as goal

pub loop-i-init : goal.loop-i-init
loop-i-init c = over-empty _ _ _

pub loop-i-preserved : goal.loop-i-preserved
loop-i-preserved c =
    moved-next _ _ _ _ (omega arith) (omega arith) c.loop-i-test.true c.loop-i.auto.i c.loop-i.invariant

pub returns : goal.returns
returns c =
    let e : c.loop-i.i ≡ 0 = omega arith in
    moved-end _ _ _ _ c.requires (rw e at c.loop-i.invariant)
