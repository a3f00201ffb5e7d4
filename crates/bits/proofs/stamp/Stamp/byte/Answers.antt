-- A byte that a bit is stamped on meets its contract. Assumes nothing.
use Rattle.std.proofs.Common.{◌∙◌}
use Rattle.bits.proofs.stamp.Stamp.byte.Goals as goal

pub returns-then-on : goal.returns-then-on
returns-then-on c = c.byte-t.ensures ∙ rw (c.if-on.true, c.args.self.now.full)

pub returns : goal.returns
returns c = rw c.if-on.false
