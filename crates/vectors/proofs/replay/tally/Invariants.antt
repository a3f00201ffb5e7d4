-- `vectors::replay::tally` meets its contract: there are no more lines than bytes before the rest, and no more agree than there are.
use Rattle.std.proofs.Common.{◌+◌, ◌≤◌, length}
use Rattle.vectors.proofs.replay.tally.Given as goal

abbrev pub invariant-loop-rest : goal.invariant-loop-rest
invariant-loop-rest g l = goal.F-IsAlwaysCallable g l.agrees × (l.t.lines + length l.rest ≤ length l.fn.list) × (l.t.agree ≤ l.t.lines)

abbrev pub decreases-loop-rest : goal.decreases-loop-rest
decreases-loop-rest g l = length l.rest
