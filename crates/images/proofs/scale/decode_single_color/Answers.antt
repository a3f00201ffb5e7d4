use Rattle.std.proofs.Common.{sym, arith, zero-mul, add-mul, one-mul, ◌+◌, ◌*◌, ◌≡◌}
use Rattle.images.proofs.Scaling.{down-start, down-room, down-next, down-end, down-above, down-at}
use Rattle.images.proofs.scale.decode_single_color.Goals as goal

pub loop-j-init : goal.loop-j-init
loop-j-init c = down-at _ _ _ _ _ (sym (zero-mul _)) (down-start _ _ _ _ _)

pub draw_row-requires : goal.draw_row-requires
draw_row-requires c =
    let r = down-room _ _ _ _ _ c.loop-j.invariant c.loop-j-test.true c.requires.fy_in_bounds in
    record { j_bound = (c.loop-j-test.true, r); above = down-above _ _ _ c.loop-j.invariant c.args.image.sound.fy r }

pub loop-j-preserved : goal.loop-j-preserved
loop-j-preserved c =
    let W = c.args.image.source.w * c.args.image.source.fx in
    let e : c.loop-j.j * W + W ≡ (c.loop-j.j + 1) * W = omega (arith, add-mul c.loop-j.j 1 W, one-mul W) in
    down-at _ _ _ _ _ e (down-next _ _ _ _ _ c.loop-j.invariant c.loop-j-test.true c.draw_row.ensures)

pub returns : goal.returns
returns c = down-end _ _ _ _ _ c.loop-j.invariant c.loop-j-test.false
