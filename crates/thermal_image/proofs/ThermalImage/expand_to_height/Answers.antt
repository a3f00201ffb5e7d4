use Rattle.std.proofs.Common.{refl}
use Rattle.numbers.proofs.Refusals.{never}
use mathlib.Core.Path.{sym, ◌∙◌}
use Prim.Native.Nat.{◌≤◌}
use native.Mathlib.Omega.{arith}
use lib.ListN.{length}
use Rattle.numbers.proofs.Sides.{area}
use Rattle.thermal_image.specs.Canvas.{grown, grown_on}
use Rattle.refusals.proofs.Codes.{Fits, grow-done}
use Rattle.thermal_image.proofs.Answers.{refused, did, kept, changed}
use Rattle.thermal_image.proofs.Paper.{more_rows, papered-run}
use Rattle.thermal_image.proofs.ThermalImage.expand_to_height.Goals as goal
use Rattle.thermal_image.proofs.ThermalImage.expand_to_height.Goals.{After-max-tall}

-- no fewer rows than before, and room for them
fits : (c : After-max-tall) → let p = c.args in
    (p.self.height ≤ c.max-tall.result) × Fits p.self.width p.self.height p.self.width c.max-tall.result (length p.buf.now)
fits c =
    (omega (arith, c.max-tall.ensures), rw c.max-tall.ensures (grow-done _ _ _ _ (sym c.in_default.ensures)))

pub returns-in-Err : goal.returns-in-Err
unfolding grown grown_on
returns-in-Err c = record { value = c.refused.ensures ∙ refused c.in-Err.ensures _ _ (never _); buf_after = kept c.in-Err.ensures _ _ (never _) }

pub overflow_mul-at : goal.overflow_mul-at
overflow_mul-at c = let s = (fits (goal.at.overflow_mul-at c).After-max-tall).1.sound in omega (arith, area s.width s.height)

pub overflow_mul-end : goal.overflow_mul-end
overflow_mul-end c = let g = (fits (goal.at.overflow_mul-end c).After-max-tall).1 in omega (arith, area g.wide g.tall)

pub overflow_sub-end : goal.overflow_sub-end
overflow_sub-end c = omega (arith, more_rows c.args.self.width (fits (goal.at.overflow_sub-end c).After-max-tall).0)

pub fill_run-requires : goal.fill_run-requires
fill_run-requires c = let g = fits (goal.at.fill_run-requires c).After-max-tall in omega (arith, more_rows c.args.self.width g.0, g.1.room)

pub returns : goal.returns
unfolding grown grown_on
returns c =
    record { value = did c.in_default.ensures _ _ refl (c.sized.ensures ∙ rw (c.rows_of.ensures, c.max-tall.ensures)); buf_after = changed c.in_default.ensures _ _ refl (papered-run _ _ _ _ _ c.max-tall.ensures c.fill_run.ensures) }
