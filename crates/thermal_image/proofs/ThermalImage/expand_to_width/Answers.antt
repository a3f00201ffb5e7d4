use Rattle.std.proofs.Common.{refl}
use Rattle.numbers.proofs.Refusals.{never}
use mathlib.Core.Path.{sym, ap, ◌∙◌}
use Prim.Native.Nat.{ℕ}
use native.Mathlib.Omega.{arith}
use lib.ListN.{length}
use borrow.Author.Tests.{le-leb, lt-leb}
use Rattle.thermal_image.specs.Canvas.{finished, sized, widened, widened_on}
use Rattle.refusals.proofs.Codes.{Fits, widen-done}
use Rattle.thermal_image.proofs.Answers.{refused, did, kept, changed}
use Rattle.thermal_image.proofs.ThermalImage.expand_to_width.Goals as goal
use Rattle.thermal_image.proofs.ThermalImage.expand_to_width.Goals.{Else-new_width-self}

fits : (c : Else-new_width-self) → let p = c.args in Fits p.self.width p.self.height p.new_width p.self.height (length p.buf.now)
fits c = widen-done _ _ _ _ (sym c.in_default.ensures) c.if-new_width-self.false

pub returns-in-Err : goal.returns-in-Err
unfolding widened widened_on
returns-in-Err c = record { value = c.refused.ensures ∙ refused c.in-Err.ensures _ _ (never _); buf_after = kept c.in-Err.ensures _ _ (never _) }

pub returns-then-new_width-self : goal.returns-then-new_width-self
unfolding widened widened_on
returns-then-new_width-self c =
    let p = c.args in
    record { value = did c.in_default.ensures _ _ refl (c.sized.ensures ∙ ap (λ (w : ℕ). finished (sized p.self w p.self.height)) (omega (arith, c.if-new_width-self.true))); buf_after = changed c.in_default.ensures _ _ refl (rw (le-leb _ _ c.if-new_width-self.true)) }

pub widen-requires : goal.widen-requires
widen-requires c = let g = fits (goal.at.widen-requires c).Else-new_width-self in (omega (arith, c.if-new_width-self.false), omega (arith, g.room))

pub returns : goal.returns
unfolding widened widened_on
returns c =
    let p = c.args in
    record { value = did c.in_default.ensures _ _ refl (c.sized-2.ensures ∙ ap (λ (w : ℕ). finished (sized p.self w p.self.height)) (omega (arith, c.if-new_width-self.false))); buf_after = changed c.in_default.ensures _ _ refl (rw (lt-leb _ _ c.if-new_width-self.false) c.widen.ensures) }
