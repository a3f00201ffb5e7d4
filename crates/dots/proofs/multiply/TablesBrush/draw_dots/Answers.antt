use Rattle.std.proofs.Common.{arith}
use Rattle.colour.specs.Colour.{multiplied}
use Rattle.dots.proofs.Laws.{run_none, run-dot}
use Rattle.dots.proofs.multiply.TablesBrush.draw_dots.Goals as goal

pub loop-i-init : goal.loop-i-init
loop-i-init c = run_none _ _ _

pub loop-i-preserved : goal.loop-i-preserved
loop-i-preserved c =
    let a = c.args in
    run-dot a.at c.loop-i.i (multiplied a.self.now.color) a.buf.now (omega arith) (omega arith) c.loop-i.invariant c.get_dot-s.ensures c.look_up.ensures c.set_dot.ensures
