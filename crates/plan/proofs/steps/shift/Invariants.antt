-- `plan::steps::shift` meets its contract. Assumes nothing.
use mathlib.Core.Path.{◌≡◌}
use Prim.Native.Nat.{◌-◌, ◌≤◌}
use Rattle.plan.specs.Steps.{lowered_entries, with_entries}
use Rattle.plan.proofs.steps.shift.Given as goal

abbrev pub invariant-loop-i : goal.invariant-loop-i
invariant-loop-i l = (l.i ≤ l.n) × (l.p ≡ with_entries l.initial.p l.initial.p.height l.n (lowered_entries l.m l.i l.initial.p.entries))

abbrev pub decreases-loop-i : goal.decreases-loop-i
decreases-loop-i l = l.n - l.i
