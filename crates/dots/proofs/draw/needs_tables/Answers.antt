-- `dots::draw::needs_tables` meets its contract. Assumes nothing.
use Rattle.dots.specs.Tables.{needs_tables}
use Rattle.dots.proofs.draw.needs_tables.Goals as goal

pub returns-then-multiply : goal.returns-then-multiply
unfolding needs_tables
returns-then-multiply c = rw c.if-multiply.true

pub returns-else-multiply : goal.returns-else-multiply
unfolding needs_tables
returns-else-multiply c = rw c.if-multiply.false
