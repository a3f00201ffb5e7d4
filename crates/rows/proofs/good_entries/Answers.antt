use Rattle.std.proofs.Common.{refl, sym, ◌∙◌, arith}
use Rattle.rows.proofs.Rules.{good_start, good-next, good-not, good-whole}
use Rattle.rows.proofs.good_entries.Goals as goal

pub loop-e-init : goal.loop-e-init
loop-e-init c = good_start _ _ _ _

pub loop-e-preserved : goal.loop-e-preserved
loop-e-preserved c =
    good-next _ _ _ c.args.entries.now c.loop-e.e-index c.loop-e.invariant (sym c.good_entry.ensures ∙ c.if-not-good_entry.false)

pub returns-then-not-good_entry : goal.returns-then-not-good_entry
returns-then-not-good_entry c =
    good-not _ _ _ _ c.args.entries.now c.loop-e.e-index c.loop-e-test.true (sym c.good_entry.ensures ∙ c.if-not-good_entry.true)
    ∙ good-whole _ _ _ c.args.entries.now refl

pub returns : goal.returns
returns c = sym c.loop-e.invariant ∙ good-whole _ _ _ c.args.entries.now (omega arith)
