use Rattle.std.proofs.Common.{◌≡◌, ◌/◌, arith}
use Rattle.bits.proofs.Rows.{done_none, done-more, done-all}
use Rattle.bits.proofs.row.draw_eights.Goals as goal

pub loop-x-init : goal.loop-x-init
loop-x-init g c = done_none _ _ _ _ _ _

pub loop-x-preserved : goal.loop-x-preserved
loop-x-preserved g c =
    done-more _ _ _ _ _ _ c.loop-x.invariant (omega arith) (omega arith) c.draw_byte.ensures

pub returns-then-rest-gt0 : goal.returns-then-rest-gt0
returns-then-rest-gt0 g c =
    let whole : c.loop-x.x ≡ c.args.count / 8 = omega arith in
    done-all _ _ _ _ _ _ (done-more _ _ _ _ _ _ (rw whole at c.loop-x.invariant) (omega arith) (omega arith) c.draw_byte-then-rest-gt0.ensures) (omega arith)
