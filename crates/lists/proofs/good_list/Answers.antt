use Rattle.rows.specs.Rows.{good_plan}
use lib.Seq.{take-length}
use Rattle.std.proofs.Common.{rules}
use Rattle.lists.proofs.good_list.Goals as goal

-- The body has no slice. `whole` proves one that leaves nothing out too, so that the first mistake of judged_wrong is
-- refused for what it leaves out, and not for its form.
pub returns-then-good_sizes : goal.returns-then-good_sizes
unfolding good_plan
returns-then-good_sizes c = let whole = take-length c.args.entries.now in rw (← c.good_sizes.ensures, c.if-good_sizes.true) (search rules)

pub returns-else-good_sizes : goal.returns-else-good_sizes
unfolding good_plan
returns-else-good_sizes c = rw (← c.good_sizes.ensures, c.if-good_sizes.false)
