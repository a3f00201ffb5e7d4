-- `images::scale::repeats` meets its contract. Assumes nothing.
use Rattle.images.specs.Steps.{repeated}
use Rattle.images.proofs.scale.repeats.Goals as goal

pub returns-then-not-blend : goal.returns-then-not-blend
unfolding repeated
returns-then-not-blend c = rw c.if-not-blend.true

pub returns-else-not-blend : goal.returns-else-not-blend
unfolding repeated
returns-else-not-blend c = rw c.if-not-blend.false
