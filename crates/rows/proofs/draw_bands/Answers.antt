use Rattle.std.proofs.Common.{◌≡◌, ◌+◌, ◌≤◌, arith}
use native.Mathlib.Nat.{mul-le-mul_right}
use Rattle.rows.proofs.Lines.{Banded, banded-start, banded-next, banded-end}
use Rattle.rows.proofs.draw_bands.Goals as goal
use Rattle.rows.proofs.draw_bands.Goals.{After-draw_rows}

-- a band and what it leaves
step : (c : After-draw_rows) → let a = c.args in Banded a.«data».now a.width a.paper_color a.entries.now a.first a.count a.buf.now (c.loop-j.j + c.min-n.result) c.draw_rows.new.buf
step c =
    banded-next _ _ c.args.paper_color _ _ _ _ _ c.requires.good.0 c.loop-j.invariant (omega (arith, c.min-n.ensures)) c.draw_rows.ensures

pub loop-j-init : goal.loop-j-init
loop-j-init c = banded-start _ _ c.args.paper_color _ _ _ _

pub draw_rows-requires : goal.draw_rows-requires
draw_rows-requires c =
    let a = c.args in
    let l = c.loop-j in
    let few : l.j + c.min-n.result ≤ a.count = omega (arith, c.min-n.ensures) in
    record { good = c.requires.good; room = (omega (arith, c.requires.room.0, few), omega (arith, c.requires.room.1, l.invariant.same, mul-le-mul_right a.width few)) }

pub loop-j-preserved : goal.loop-j-preserved
loop-j-preserved c =
    let e : c.min-n.result ≡ 64 = omega (arith, c.min-n.ensures) in rw (← e) (step (goal.at.loop-j-preserved c).After-draw_rows)

pub shape_of-buf-2 : goal.shape_of-buf-2
shape_of-buf-2 c = omega (arith, c.loop-j.invariant.same)

pub returns-2 : goal.returns-2
returns-2 c = banded-end _ _ c.args.paper_color _ _ _ _ (step (goal.at.returns-2 c).After-draw_rows) (omega (arith, c.min-n.ensures))

pub shape_of-buf : goal.shape_of-buf
shape_of-buf c = omega (arith, c.loop-j.invariant.same)

pub returns : goal.returns
returns c = banded-end _ _ c.args.paper_color _ _ _ _ c.loop-j.invariant c.loop-j-test.false
