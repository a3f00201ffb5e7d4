-- `graphics::layers::draw_layer` meets its contract. Assumes nothing.
use mathlib.Core.Path.{sym}
use Prim.Native.Nat.{◌+◌, ◌*◌, ◌≤◌}
use native.Mathlib.Omega.{arith}
use lib.ListN.{length}
use Rattle.images.proofs.Sides.{sides}
use Rattle.graphics.proofs.Layering.{layer-ends, layer-sound, layer-drawn}
use Rattle.graphics.proofs.layers.draw_layer.Goals as goal
use Rattle.graphics.proofs.layers.draw_layer.Goals.{After-layer_bytes-size}

ends : (c : After-layer_bytes-size) → c.args.k * (1 + c.layer_bytes-size.result) + 1 + c.layer_bytes-size.result ≤ length c.args.«data».now
ends c = layer-ends c.args.bits c.args.source c.args.k c.requires.k_bound.1 c.layer_bytes-size.ensures

pub layer_bytes-size-requires : goal.layer_bytes-size-requires
layer_bytes-size-requires c = sides c.args.source c.requires.k_bound.1.sound

pub overflow_mul-start : goal.overflow_mul-start
overflow_mul-start c = omega (arith, ends (goal.at.overflow_mul-start c).After-layer_bytes-size)

pub bounds-data-start : goal.bounds-data-start
bounds-data-start c = omega (arith, ends (goal.at.bounds-data-start c).After-layer_bytes-size)

pub overflow_add-from : goal.overflow_add-from
overflow_add-from c = omega (arith, ends (goal.at.overflow_add-from c).After-layer_bytes-size)

pub overflow_add-end : goal.overflow_add-end
overflow_add-end c = omega (arith, ends (goal.at.overflow_add-end c).After-layer_bytes-size)

pub invariant_of-image : goal.invariant_of-image
invariant_of-image c =
    record { sound = layer-sound _ _ _ c.args.bits c.args.source _ c.in_color.ensures c.requires.k_bound.1.sound (sym c.layer_bytes-size.ensures) (ends (goal.at.invariant_of-image c).After-layer_bytes-size) }

pub decode_single_color-requires : goal.decode_single_color-requires
decode_single_color-requires c = record { fy_in_bounds = rw c.in_color.ensures c.requires.fy_in_bounds }

pub returns : goal.returns
returns c =
    layer-drawn _ _ _ c.args.source _ _ _ c.requires.k_bound.1.format c.layer_bytes-size.ensures c.color_for_number-color.ensures c.in_color.ensures c.decode_single_color.ensures
