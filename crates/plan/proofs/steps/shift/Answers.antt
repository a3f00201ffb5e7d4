use mathlib.Core.Path.{◌≡◌, ap}
use Prim.Native.Nat.{◌+◌}
use native.Mathlib.Omega.{arith}
use lib.ListN.{get_or}
use Rattle.entries.specs.declared.Entry.{Entry}
use Rattle.plan.specs.Plan.{no_entry}
use Rattle.plan.specs.Steps.{lowered_entries, with_entries}
use Rattle.plan.proofs.Listed.{get_or-lowered}
use Rattle.plan.proofs.Answers.{lower-step}
use borrow.Author.Rules.{rules}
use Rattle.plan.proofs.steps.shift.Goals as goal

pub loop-i-init : goal.loop-i-init
unfolding lowered_entries
loop-i-init c = search rules

pub overflow_add-e : goal.overflow_add-e
overflow_add-e c =
    let l = c.loop-i in
    let e : get_or l.p.entries l.i no_entry ≡ get_or c.args.plan.entries l.i no_entry = rw l.invariant.1 (get_or-lowered c.args.m l.i c.args.plan.entries) in
    omega (arith, ap (λ (x : Entry). x.y) e, c.requires.low l.i (omega arith))

pub loop-i-preserved : goal.loop-i-preserved
loop-i-preserved c =
    let l = c.loop-i in
    let a = c.args in
    (omega arith, lower-step (with_entries a.plan (a.plan.height + a.m) a.plan.count a.plan.entries) (a.plan.height + a.m) a.plan.count a.m l.i l.invariant.1)

pub returns : goal.returns
returns c = let l = c.loop-i in let e : l.i ≡ c.args.plan.count = omega arith in rw e at l.invariant.1
