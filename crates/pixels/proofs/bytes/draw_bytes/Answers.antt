use Rattle.std.proofs.Common.{◌≡◌, ◌+◌, ◌*◌, ◌/◌, arith}
use Rattle.pixels.proofs.Crispness.{full-part}
use Rattle.pixels.proofs.Runs.{drawn-start, drawn-at, drawn-more, drawn-end}
use Rattle.pixels.proofs.bytes.draw_bytes.Goals as goal

pub loop-b-init : goal.loop-b-init
loop-b-init c = drawn-start _ _ _ _ _ _

pub draw_some-requires : goal.draw_some-requires
draw_some-requires c =
    record { count_bound = omega arith; fact = full-part _ _ _ 16 _ (omega arith) c.requires.fact }

pub loop-b-preserved : goal.loop-b-preserved
loop-b-preserved c =
    let e : c.loop-b.b * 16 + 16 ≡ (c.loop-b.b + 1) * 16 = omega arith in
    drawn-at _ _ _ _ _ _ e (drawn-more _ _ _ _ _ _ 16 c.loop-b.invariant (omega arith) c.draw_some.ensures)

pub draw_some-requires-2 : goal.draw_some-requires-2
draw_some-requires-2 c =
    record { count_bound = omega arith; fact = full-part _ _ _ _ _ (omega arith) c.requires.fact }

pub returns : goal.returns
returns c =
    let e : c.loop-b.b * 16 ≡ c.args.count / 16 * 16 = omega arith in
    drawn-end _ _ _ _ _ _
    (drawn-more _ _ _ _ _ _ _ (drawn-at _ _ _ _ _ _ e c.loop-b.invariant) (omega arith) c.draw_some-2.ensures)
    (omega arith)
