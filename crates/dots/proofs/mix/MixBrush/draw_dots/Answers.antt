use Rattle.std.proofs.Common.{◌≡◌, ◌+◌, ◌-◌, arith}
use Rattle.dots.specs.Dots.{drawn}
use Rattle.dots.proofs.Laws.{run_none, run_on}
use Rattle.dots.proofs.mix.MixBrush.draw_dots.Goals as goal

pub loop-i-init : goal.loop-i-init
loop-i-init c = (omega arith, omega arith, run_none _ _ _)

pub loop-i-preserved : goal.loop-i-preserved
loop-i-preserved c =
    let a = c.args in
    let m = a.self.now in
    (omega arith, omega arith, run_on a.at c.loop-i.i (c.loop-i.i + 16) (λ _ s. drawn m.multiply m.color s) a.buf.now (omega arith) (omega arith) c.loop-i.invariant.2 c.mix_some.ensures)

pub returns : goal.returns
returns c =
    let a = c.args in
    let m = a.self.now in
    let e : c.loop-i.i + (a.at + a.count - c.loop-i.i) ≡ a.at + a.count = omega arith in
    run_on a.at c.loop-i.i (a.at + a.count) (λ _ s. drawn m.multiply m.color s) a.buf.now (omega arith) (omega arith) c.loop-i.invariant.2 (rw e at c.mix_some-2.ensures)
