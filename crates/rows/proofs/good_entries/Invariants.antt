use Rattle.std.proofs.Common.{◌≡◌, true}
use Rattle.rows.specs.Rows.{good_entries, firsts}
use Rattle.rows.proofs.good_entries.Given as goal

abbrev pub invariant-loop-e : goal.invariant-loop-e
invariant-loop-e l = good_entries l.width l.height l.n (firsts l.e-index l.entries) ≡ true
