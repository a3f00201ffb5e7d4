-- `dots::draw::covers` meets its contract. Assumes nothing.
use Rattle.dots.specs.Tables.{covers}
use Rattle.dots.proofs.draw.covers.Goals as goal

pub returns-then-not-multiply : goal.returns-then-not-multiply
unfolding covers
returns-then-not-multiply c = rw c.if-not-multiply.true

pub returns-else-not-multiply : goal.returns-else-not-multiply
unfolding covers
returns-else-not-multiply c = rw c.if-not-multiply.false
