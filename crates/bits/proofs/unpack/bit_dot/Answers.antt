-- `bits::unpack::bit_dot` meets its contract. Assumes nothing.
use mathlib.Core.Path.{◌∙◌}
use Rattle.bits.proofs.Unpacking.{on-landed, off-kept, off-put}
use Rattle.bits.proofs.unpack.bit_dot.Goals as goal

pub returns-then-on : goal.returns-then-on
returns-then-on c = c.with_alpha.ensures ∙ on-landed _ c.args.color _ c.if-on.true

pub returns-then-blend : goal.returns-then-blend
returns-then-blend c = off-kept c.args.color _ c.if-on.false c.if-blend.true

pub returns : goal.returns
returns c = c.with_alpha-2.ensures ∙ off-put c.args.color _ c.if-on.false c.if-blend.false
