-- `plan::has_flip` meets its contract. Assumes nothing.
use Prim.Native.Nat.{◌-◌}
use lib.ListN.{length}
use Rattle.plan.proofs.Going.{Searched}
use Rattle.plan.proofs.has_flip.Given as goal

abbrev pub invariant-loop-kind : goal.invariant-loop-kind
invariant-loop-kind l = Searched l.job.bytes.now l.at

abbrev pub decreases-loop-kind : goal.decreases-loop-kind
decreases-loop-kind l = length l.job.bytes.now - l.at
