use Rattle.numbers.proofs.Refusals.{never}
use Rattle.std.proofs.Common.{refl}
use mathlib.Core.Path.{sym, ◌∙◌}
use Prim.Native.Nat.{◌≤◌, ◌<◌}
use native.Mathlib.Omega.{arith}
use Rattle.graphics.specs.Decoding.{decoded, decoded_on}
use Rattle.images.specs.Steps.{source_pixel}
use Rattle.images.proofs.Sides.{factor-range}
use Rattle.graphics.proofs.Codes.{single-done}
use Rattle.graphics.proofs.Answers.{answer-refused, answer-done, output-refused, output-done, room_for, sound-of}
use Rattle.graphics.proofs.image_from_bytes.Goals as goal
use Rattle.graphics.proofs.image_from_bytes.Goals.{After-factor_of-fx, After-factor_of-fy}

range : (c : After-factor_of-fx) → (0 < c.factor_of-fx.result) × (c.factor_of-fx.result ≤ 255)
range c = factor-range _ c.factor_of-fx.ensures (omega arith)

range-2 : (c : After-factor_of-fy) → (0 < c.factor_of-fy.result) × (c.factor_of-fy.result ≤ 255)
range-2 c = factor-range _ c.factor_of-fy.ensures (omega arith)

pub refusal_of-requires : goal.refusal_of-requires
refusal_of-requires c = ((range (goal.at.refusal_of-requires c).After-factor_of-fx).1, (range-2 (goal.at.refusal_of-requires c).After-factor_of-fy).1)

pub returns-in-Err : goal.returns-in-Err
unfolding decoded decoded_on
returns-in-Err c =
    let e = c.in-Err.ensures in record { value = c.refused.ensures ∙ rw (← c.factor_of-fx.ensures, ← c.factor_of-fy.ensures, ← e) (answer-refused _ _ _ _ _ (never _)); out_after = rw (← c.factor_of-fx.ensures, ← c.factor_of-fy.ensures, ← e) (output-refused _ _ _ _ _ _ _ (never _)) }

pub invariant_of-decode_single_color : goal.invariant_of-decode_single_color
invariant_of-decode_single_color c =
    let g = single-done _ _ _ _ _ _ _ (sym c.in_default.ensures) in
    record { sound = sound-of _ _ _ _ _ _ g.sides (range (goal.at.invariant_of-decode_single_color c).After-factor_of-fx).0 (range-2 (goal.at.invariant_of-decode_single_color c).After-factor_of-fy).0 (omega (arith, g.bytes)) }

pub decode_single_color-requires : goal.decode_single_color-requires
decode_single_color-requires c =
    record { fy_in_bounds = room_for _ _ _ _ (single-done _ _ _ _ _ _ _ (sym c.in_default.ensures)).fits }

pub overflow_mul-result : goal.overflow_mul-result
overflow_mul-result c = omega (arith, (single-done _ _ _ _ _ _ _ (sym c.in_default.ensures)).sides.wide)

pub overflow_mul-result-2 : goal.overflow_mul-result-2
overflow_mul-result-2 c = omega (arith, (single-done _ _ _ _ _ _ _ (sym c.in_default.ensures)).sides.tall)

pub returns : goal.returns
unfolding decoded decoded_on source_pixel
returns c =
    let e = c.in_default.ensures in record { value = rw (← c.factor_of-fx.ensures, ← c.factor_of-fy.ensures, ← e) (answer-done _ _ _ _ _ refl); out_after = rw (← c.factor_of-fx.ensures, ← c.factor_of-fy.ensures, ← e) (output-done _ _ _ _ _ _ _ refl c.decode_single_color.ensures) }
