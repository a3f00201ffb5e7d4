use Rattle.std.proofs.Common.{arith}
use Rattle.dots.specs.Dots.{drawn}
use Rattle.dots.proofs.Laws.{run_none, run-dot}
use Rattle.dots.proofs.draw.PenBrush.draw_dots.Goals as goal

pub loop-i-init : goal.loop-i-init
loop-i-init c = run_none _ _ _

pub loop-i-preserved : goal.loop-i-preserved
loop-i-preserved c =
    let a = c.args in
    let p = a.self.now in
    run-dot a.at c.loop-i.i (drawn p.multiply p.color) a.buf.now (omega arith) (omega arith) c.loop-i.invariant c.get_dot-s.ensures c.draw_dot-d.ensures c.set_dot.ensures
