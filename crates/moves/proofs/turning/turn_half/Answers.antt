use Rattle.std.proofs.Common.{arith}
use Rattle.dots.proofs.Laws.{run_none, run-turn}
use Rattle.moves.proofs.turning.turn_half.Goals as goal

pub loop-i-init : goal.loop-i-init
loop-i-init c = run_none 0 _ _

pub loop-i-preserved : goal.loop-i-preserved
loop-i-preserved c =
    run-turn 0 _ _ _ (omega arith) (omega arith) c.loop-i.invariant c.load_dot-d.ensures c.store_dot.ensures
