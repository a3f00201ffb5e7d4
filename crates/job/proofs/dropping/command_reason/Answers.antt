-- `job::dropping::command_reason` meets its contract. Assumes nothing.
use Rattle.job.proofs.Reasons.{of-rectangle, of_image, of-margin, of-flip}
use Rattle.job.proofs.dropping.command_reason.Goals as goal

pub returns-in-Rectangle : goal.returns-in-Rectangle
returns-in-Rectangle c = of-rectangle _ _ c.in-Rectangle.is c.put_reason.ensures

pub returns-in-Image : goal.returns-in-Image
returns-in-Image c = of_image _ _ c.in-Image.is c.image_reason.ensures

pub returns-in-Margin : goal.returns-in-Margin
returns-in-Margin c = of-margin _ _ c.in-Margin.is c.tall_refusal.ensures

pub returns-in-Flip : goal.returns-in-Flip
returns-in-Flip c = of-flip _ _ c.in-Flip.is c.flip_reason.ensures
