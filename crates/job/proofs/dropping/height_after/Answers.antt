-- `job::dropping::height_after` meets its contract. Assumes nothing.
use mathlib.Core.Path.{sym, ◌∙◌}
use native.Mathlib.Omega.{arith}
use Rattle.job.proofs.Reasons.{after-rectangle, after-image, after-margin, after-flip}
use Rattle.job.proofs.dropping.height_after.Goals as goal

pub overflow_cast-result : goal.overflow_cast-result
overflow_cast-result c = omega (arith, c.reached.ensures, after-rectangle c.args.height c.in-Rectangle.is)

pub overflow_mul-h : goal.overflow_mul-h
overflow_mul-h c = omega (arith, after-image c.args.height c.in-Image.is c.factor_of.ensures)

pub overflow_cast-result-in-Image : goal.overflow_cast-result-in-Image
overflow_cast-result-in-Image c =
    omega (arith, c.reached-in-Image.ensures, after-image c.args.height c.in-Image.is c.factor_of.ensures)

pub overflow_add-result : goal.overflow_add-result
overflow_add-result c = omega (arith, after-margin c.args.height c.in-Margin.is)

pub overflow_cast-result-in-Flip : goal.overflow_cast-result-in-Flip
overflow_cast-result-in-Flip c = omega (arith, c.reached-in-Flip.ensures, after-flip c.args.height c.in-Flip.is)

pub returns-in-Rectangle : goal.returns-in-Rectangle
returns-in-Rectangle c = c.reached.ensures ∙ sym (after-rectangle _ c.in-Rectangle.is)

pub returns-in-Image : goal.returns-in-Image
returns-in-Image c = c.reached-in-Image.ensures ∙ sym (after-image _ c.in-Image.is c.factor_of.ensures)

pub returns-in-Margin : goal.returns-in-Margin
returns-in-Margin c = sym (after-margin _ c.in-Margin.is)

pub returns-in-Flip : goal.returns-in-Flip
returns-in-Flip c = c.reached-in-Flip.ensures ∙ sym (after-flip _ c.in-Flip.is)
