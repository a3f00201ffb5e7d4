use native.Mathlib.Omega.{arith}
use Rattle.graphics.proofs.Layering.{fewer, merging_start, merging-next, merging-end}
use Rattle.graphics.proofs.layers.merge_image_layers.Goals as goal

pub loop-k-init : goal.loop-k-init
loop-k-init c = merging_start _ _ _ _ _ _

pub draw_layer-requires : goal.draw_layer-requires
draw_layer-requires c =
    record { k_bound = (omega arith, fewer _ _ (omega arith) c.requires.n_nonzero.2); fy_in_bounds = omega (arith, c.requires.fy_in_bounds, c.loop-k.invariant.same) }

pub loop-k-preserved : goal.loop-k-preserved
loop-k-preserved c = merging-next _ _ _ _ _ c.loop-k.invariant c.loop-k-test.true c.draw_layer.ensures

pub returns : goal.returns
returns c = merging-end _ _ _ _ _ c.loop-k.invariant c.loop-k-test.false c.requires.n_nonzero.0
