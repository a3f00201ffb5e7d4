use Rattle.std.proofs.Common.{sym, ◌∙◌}
use Rattle.rows.specs.Rows.{good_plan}
use Rattle.rows.proofs.Rules.{sizes-good}
use Rattle.rows.proofs.good_plan.Goals as goal

pub firsts-requires : goal.firsts-requires
firsts-requires c = (sizes-good _ _ _ (sym c.good_sizes.ensures ∙ c.if-good_sizes.true)).few

pub returns-then-good_sizes : goal.returns-then-good_sizes
unfolding good_plan
returns-then-good_sizes c =
    c.good_entries.ensures ∙ rw (c.firsts.ensures, ← c.good_sizes.ensures, c.if-good_sizes.true)

pub returns-else-good_sizes : goal.returns-else-good_sizes
unfolding good_plan
returns-else-good_sizes c = rw (← c.good_sizes.ensures, c.if-good_sizes.false)
