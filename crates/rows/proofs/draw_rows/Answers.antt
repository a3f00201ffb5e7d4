use Rattle.std.proofs.Common.{refl, arith, length}
use native.Mathlib.Nat.{add-mul}
use Rattle.rows.proofs.Rules.{firsts-whole, good-each}
use Rattle.rows.proofs.Lines.{applied-start, applied-next, applied-end}
use Rattle.rows.proofs.draw_rows.Goals as goal

pub overflow_mul-top : goal.overflow_mul-top
overflow_mul-top c = let a = c.args in omega (arith, c.requires.room.1, add-mul a.top a.count a.width)

pub overflow_mul-count : goal.overflow_mul-count
overflow_mul-count c = let a = c.args in omega (arith, c.requires.room.1, add-mul a.top a.count a.width)

pub fill_run-requires : goal.fill_run-requires
fill_run-requires c = let a = c.args in omega (arith, c.requires.room.1, add-mul a.top a.count a.width)

pub loop-e-init : goal.loop-e-init
loop-e-init c = applied-start _ _ _ _ _ _ _ _

pub draw_entry-requires : goal.draw_entry-requires
draw_entry-requires c =
    let l = c.loop-e in
    let g = c.requires.good in (
      record { some = g.0; wide = g.1; last = c.requires.room.0; room = omega (arith, c.requires.room.1, l.invariant.same) },
      good-each _ _ _ c.args.entries.now g.2 l.e-index c.loop-e-test.true,
    )

pub loop-e-preserved : goal.loop-e-preserved
loop-e-preserved c = applied-next _ _ _ _ _ _ _ _ c.requires.good.0 c.loop-e.invariant c.loop-e-test.true c.draw_entry.ensures

pub shape_of-buf : goal.shape_of-buf
shape_of-buf c = omega (arith, c.loop-e.invariant.same)

pub returns : goal.returns
returns c =
    let e = applied-end _ _ _ _ _ _ _ _ c.loop-e.invariant c.loop-e-test.false c.args.paper_color _ c.fill_run.ensures in
    rw (firsts-whole c.args.entries.now (length c.args.entries.now) refl) at e
