use Rattle.numbers.proofs.Refusals.{never}
use Rattle.std.proofs.Common.{refl}
use mathlib.Core.Path.{sym, ◌∙◌}
use Prim.Native.Nat.{◌≤◌, ◌<◌}
use native.Mathlib.Omega.{arith}
use Rattle.graphics.specs.Layers.{merged, merged_on}
use Rattle.images.proofs.Sides.{factor-range}
use Rattle.graphics.proofs.Codes.{layers-done}
use Rattle.graphics.proofs.Answers.{answer-refused, answer-done, output-refused, output-done, room_for, layered-of}
use Rattle.graphics.proofs.image_from_raster_bytes_multi_color.Goals as goal
use Rattle.graphics.proofs.image_from_raster_bytes_multi_color.Goals.{After-factor_of-fx, After-factor_of-fy}

range : (c : After-factor_of-fx) → (0 < c.factor_of-fx.result) × (c.factor_of-fx.result ≤ 255)
range c = factor-range _ c.factor_of-fx.ensures (omega arith)

range-2 : (c : After-factor_of-fy) → (0 < c.factor_of-fy.result) × (c.factor_of-fy.result ≤ 255)
range-2 c = factor-range _ c.factor_of-fy.ensures (omega arith)

pub layers_refusal-requires : goal.layers_refusal-requires
layers_refusal-requires c = ((range (goal.at.layers_refusal-requires c).After-factor_of-fx).1, (range-2 (goal.at.layers_refusal-requires c).After-factor_of-fy).1)

pub returns-in-Err : goal.returns-in-Err
unfolding merged merged_on
returns-in-Err c =
    let e = c.in-Err.ensures in record { value = c.refused.ensures ∙ rw (← c.factor_of-fx.ensures, ← c.factor_of-fy.ensures, ← e) (answer-refused _ _ _ _ _ (never _)); out_after = rw (← c.factor_of-fx.ensures, ← c.factor_of-fy.ensures, ← e) (output-refused _ _ _ _ _ _ _ (never _)) }

pub merge_image_layers-requires : goal.merge_image_layers-requires
merge_image_layers-requires c =
    let g = layers-done _ _ _ _ _ _ _ _ (sym c.in_default.ensures) in
    let z = g.some in
    record { n_nonzero = (omega arith, omega arith, layered-of _ _ _ _ _ _ c.raster_of.ensures g (range (goal.at.merge_image_layers-requires c).After-factor_of-fx).0 (range-2 (goal.at.merge_image_layers-requires c).After-factor_of-fy).0); fy_in_bounds = room_for _ _ _ _ g.fits }

pub overflow_mul-result : goal.overflow_mul-result
overflow_mul-result c = omega (arith, (layers-done _ _ _ _ _ _ _ _ (sym c.in_default.ensures)).sides.wide)

pub overflow_mul-result-2 : goal.overflow_mul-result-2
overflow_mul-result-2 c = omega (arith, (layers-done _ _ _ _ _ _ _ _ (sym c.in_default.ensures)).sides.tall)

pub returns : goal.returns
unfolding merged merged_on
returns c =
    let e = c.in_default.ensures in record { value = rw (← c.factor_of-fx.ensures, ← c.factor_of-fy.ensures, ← e) (answer-done _ _ _ _ _ refl); out_after = rw (← c.factor_of-fx.ensures, ← c.factor_of-fy.ensures, ← e) (output-done _ _ _ _ _ _ _ refl c.merge_image_layers.ensures) }
