-- `images::scale::scale_pixels` meets its contract. The loop's invariant: the blocks of the source dots before `x` are there. Assumes nothing.
use Rattle.images.proofs.Scaling.{Across}
use Rattle.images.proofs.scale.scale_pixels.Given as goal

abbrev pub invariant-loop-x : goal.invariant-loop-x
invariant-loop-x g l = Across l.image.source l.image.«data».now l.blend l.at l.j l.initial.out l.x l.i l.out
