use Rattle.std.proofs.Common.{refl}
use Rattle.numbers.proofs.Refusals.{never}
use mathlib.Core.Path.{sym, ◌∙◌}
use native.Mathlib.Nat.{mul-add}
use native.Mathlib.Omega.{arith}
use Rattle.numbers.proofs.Sides.{area}
use Rattle.thermal_image.specs.Canvas.{margined, margined_on}
use Rattle.refusals.proofs.Codes.{margin-done}
use Rattle.thermal_image.proofs.Answers.{refused, did, kept, changed}
use Rattle.thermal_image.proofs.ThermalImage.add_top_margin.Goals as goal

pub returns-in-Err : goal.returns-in-Err
unfolding margined margined_on
returns-in-Err c = record { value = c.refused.ensures ∙ refused c.in-Err.ensures _ _ (never _); buf_after = kept c.in-Err.ensures _ _ (never _) }

pub overflow_mul-dots : goal.overflow_mul-dots
overflow_mul-dots c = let s = ((margin-done _ _ _ _ (sym c.in_default.ensures))).sound in omega (arith, area s.width s.height)

pub overflow_mul-by : goal.overflow_mul-by
overflow_mul-by c =
    let p = c.args in let g = (margin-done _ _ _ _ (sym c.in_default.ensures)) in omega (arith, area {b = p.height} g.wide (omega (arith, g.tall)))

pub move_down-requires : goal.move_down-requires
move_down-requires c =
    let p = c.args in let g = (margin-done _ _ _ _ (sym c.in_default.ensures)) in omega (arith, g.room, mul-add p.self.width p.self.height p.height)

pub overflow_add-self : goal.overflow_add-self
overflow_add-self c = omega (arith, ((margin-done _ _ _ _ (sym c.in_default.ensures))).tall)

pub returns : goal.returns
unfolding margined margined_on
returns c =
    record { value = did c.in_default.ensures _ _ refl (c.sized.ensures ∙ rw c.rows_of.ensures); buf_after = changed c.in_default.ensures _ _ refl c.move_down.ensures }
