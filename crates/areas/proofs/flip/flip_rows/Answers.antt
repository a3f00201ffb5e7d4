use Rattle.std.proofs.Common.{◌≡◌, ◌+◌, ◌*◌, ◌/◌, arith}
use Rattle.areas.proofs.Flips.{pair-start, pair-next, pair_end}
use Rattle.areas.proofs.flip.flip_rows.Goals as goal

pub loop-p-init : goal.loop-p-init
loop-p-init c = pair-start _ _ _ _

pub loop-p-preserved : goal.loop-p-preserved
loop-p-preserved c =
    let p = c.requires in
    let e : (c.loop-p.p + 1) * 256 ≡ c.loop-p.p * 256 + 256 = omega arith in
    rw e (pair-next _ _ _ _ p.0 p.1 _ _ c.loop-p.invariant (omega arith) c.flip_some.ensures)

pub returns : goal.returns
returns c =
    let p = c.requires in
    let e : c.loop-p.p * 256 ≡ c.args.w / 256 * 256 = omega arith in
    pair_end _ _ _ _ _ (pair-next _ _ _ _ p.0 p.1 _ _ (rw e at c.loop-p.invariant) (omega arith) c.flip_some-2.ensures) (omega arith)
