use Rattle.std.proofs.Common.{◌≡◌, ◌∙◌, ◌+◌, ◌/◌, arith}
use Rattle.areas.proofs.Flips.{flip-start, flip-room, flip-next, flip-end}
use Rattle.areas.proofs.flip.flip_area.Goals as goal

pub loop-j-init : goal.loop-j-init
loop-j-init c = flip-start _ _ _ _ _ _

pub flip_rows-requires : goal.flip_rows-requires
flip_rows-requires c =
    let r = flip-room _ _ _ _ _ _ c.requires c.loop-j.j (omega arith) in
    rw (c.start_of-top.ensures, c.start_of-bottom.ensures) (r.apart, r.order, omega (arith, r.inside))

pub loop-j-preserved : goal.loop-j-preserved
loop-j-preserved c =
    flip-next _ _ _ _ _ _ c.requires _ (omega arith) c.loop-j.invariant (c.flip_rows.ensures ∙ rw (c.start_of-top.ensures, c.start_of-bottom.ensures))

pub returns : goal.returns
returns c =
    let j : c.loop-j.j ≡ (c.args.area.h + 1) / 2 = omega arith in
    flip-end _ _ _ _ _ _ (omega arith) (omega (arith, j)) c.loop-j.invariant (omega (arith, j))
