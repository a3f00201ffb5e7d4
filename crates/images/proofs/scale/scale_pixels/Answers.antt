use native.Mathlib.Omega.{arith}
use Rattle.images.proofs.Scaling.{source-dot, across-start, across-room, across-next, across-end}
use Rattle.images.proofs.scale.scale_pixels.Goals as goal

pub loop-x-init : goal.loop-x-init
loop-x-init g c = across-start _ _ _ _ _ _

pub alpha_at-alpha-requires : goal.alpha_at-alpha-requires
alpha_at-alpha-requires g c =
    source-dot c.args.image.source c.args.image.sound c.requires.j_bound.0 c.loop-x-test.true

pub land_block-requires : goal.land_block-requires
land_block-requires g c =
    (across-room _ _ _ _ _ _ c.loop-x.invariant c.loop-x-test.true c.requires.j_bound.1, c.requires.one)

pub overflow_add-i : goal.overflow_add-i
overflow_add-i g c =
    omega (arith, across-room _ _ _ _ _ _ c.loop-x.invariant c.loop-x-test.true c.requires.j_bound.1)

pub loop-x-preserved : goal.loop-x-preserved
loop-x-preserved g c =
    across-next _ _ _ _ _ _ c.loop-x.invariant c.loop-x-test.true c.alpha_at-alpha.ensures c.with_alpha-pixel.ensures c.land_block.ensures

pub returns : goal.returns
returns g c = across-end _ _ _ _ _ _ c.loop-x.invariant c.loop-x-test.false
