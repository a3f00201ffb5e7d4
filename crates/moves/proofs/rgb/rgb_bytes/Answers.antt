use Rattle.std.proofs.Common.{◌≡◌, arith}
use Rattle.moves.specs.Moves.{rgb_to}
use Rattle.moves.proofs.Bytes.{over-empty}
use Rattle.moves.proofs.Runs.{tripled-next}
use Rattle.moves.proofs.rgb.rgb_bytes.Goals as goal

pub loop-k-init : goal.loop-k-init
loop-k-init c = over-empty 0 _ _

pub loop-k-preserved : goal.loop-k-preserved
loop-k-preserved c = tripled-next _ _ _ (omega arith) c.loop-k.invariant c.get_dot-d.ensures

pub returns : goal.returns
unfolding rgb_to
returns c =
    let e : c.loop-k.k ≡ c.args.n = omega arith in
    rw e at c.loop-k.invariant
