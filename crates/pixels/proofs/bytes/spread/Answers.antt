use Rattle.std.proofs.Common.{◌≡◌, arith}
use Rattle.pixels.proofs.Spread.{spread-start, spread-next}
use Rattle.pixels.proofs.bytes.spread.Goals as goal

pub loop-i-init : goal.loop-i-init
loop-i-init c = (spread-start _ _ _ _, spread-start _ _ _ _)

pub loop-i-preserved : goal.loop-i-preserved
loop-i-preserved c = (
  spread-next _ _ _ _ (omega arith) c.loop-i.invariant.0 c.load_dot-p.ensures c.inks.ensures c.store_dot.ensures,
  spread-next _ _ _ _ (omega arith) c.loop-i.invariant.1 c.load_dot-p.ensures c.alphas.ensures c.store_dot-in-loop-i.ensures,
)

pub returns : goal.returns
returns c =
    let e : c.loop-i.i ≡ c.args.count = omega arith in
    record { ink_after = rw e at c.loop-i.invariant.0.sofar; alpha_after = rw e at c.loop-i.invariant.1.sofar }
