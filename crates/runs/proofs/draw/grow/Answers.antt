-- `runs::draw::grow` meets its contract. Assumes nothing.
use mathlib.Core.List.{[]}
use native.Mathlib.Omega.{arith}
use native.Mathlib.Nat.{mul-le-mul_left}
use Rattle.numbers.proofs.Sides.{area}
use Rattle.runs.proofs.Answers.{grow-none, grow-asks, grow-some}
use Rattle.runs.proofs.draw.grow.Goals as goal

pub returns-then-end-height : goal.returns-then-end-height
returns-then-end-height c =
    let r = grow-none _ _ _ _ _ c.if-end-height.true in record { value = r.0; buf_after = r.1 }

pub overflow_mul-at : goal.overflow_mul-at
overflow_mul-at c =
    let r = c.requires in omega (arith, area {a = c.args.width} {b = c.args.height} r.wide (omega (arith, r.tall)))

pub overflow_mul-width : goal.overflow_mul-width
overflow_mul-width c =
    let r = c.requires in omega (arith, area {a = c.args.width} {b = c.args.end} r.wide (omega (arith, r.tall)))

pub overflow_sub-width : goal.overflow_sub-width
overflow_sub-width c = let h = c.if-end-height.false in omega (arith, mul-le-mul_left c.args.width h)

pub fill_run-requires : goal.fill_run-requires
fill_run-requires c =
    grow-asks c.args.width c.args.paper c.args.height c.args.end [] c.requires c.if-end-height.false

pub returns : goal.returns
returns c =
    let r = grow-some _ _ _ _ _ c.if-end-height.false c.fill_run.ensures in record { value = r.0; buf_after = r.1 }
