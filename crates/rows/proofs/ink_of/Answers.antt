use mathlib.Core.Path.{◌≡◌}
use Prim.Native.Nat.{◌≤◌}
use native.Mathlib.Omega.{arith}
use Rattle.rows.proofs.Lines.{ink-none, ink-more, ink-few, ink-one}
use Rattle.rows.proofs.ink_of.Goals as goal
use Rattle.rows.proofs.ink_of.Goals.{After-inked-count}

small : (c : After-inked-count) → c.inked-count.result ≤ 1
small c = ink-one c.get_dot.result c.inked-count.ensures

pub loop-i-init : goal.loop-i-init
loop-i-init c = (omega arith, ink-none _)

pub overflow_add-count : goal.overflow_add-count
overflow_add-count c = let l = c.loop-i in omega (arith, ink-few l.i c.args.line.now, l.invariant.1, small (goal.at.overflow_add-count c).After-inked-count)

pub loop-i-preserved : goal.loop-i-preserved
loop-i-preserved c =
    let l = c.loop-i in (omega arith, ink-more _ l.i l.invariant.1 c.get_dot.ensures c.inked-count.ensures)

pub returns : goal.returns
returns c = let e : c.loop-i.i ≡ c.args.n = omega arith in rw e at c.loop-i.invariant.1
