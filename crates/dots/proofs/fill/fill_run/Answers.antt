use Rattle.std.proofs.Common.{refl, arith}
use Rattle.dots.proofs.Laws.{run_none, run-turn}
use Rattle.dots.proofs.fill.fill_run.Goals as goal

pub loop-i-init : goal.loop-i-init
loop-i-init c = run_none _ _ _

pub loop-i-preserved : goal.loop-i-preserved
loop-i-preserved c =
    run-turn c.args.at c.loop-i.i _ c.args.buf.now (omega arith) (omega arith) c.loop-i.invariant refl c.set_dot.ensures
