use Rattle.std.proofs.Common.{◌∙◌, ◌<◌, arith}
use Rattle.moves.proofs.Turns.{dot-room, along-reads, quarter-dot}
use Rattle.moves.proofs.Rects.{no-columns, dot-more}
use Rattle.moves.proofs.turning.Quarter.turn_row.Goals as goal

pub loop-k-init : goal.loop-k-init
loop-k-init c = no-columns _ _ _ _ _ _

pub overflow_mul-y : goal.overflow_mul-y
overflow_mul-y c =
    omega (arith, along-reads _ _ _ _ _ _ (omega arith) c.requires.1 c.along-x.ensures c.along-y.ensures c.args.self.now.room)

pub overflow_add-y : goal.overflow_add-y
overflow_add-y c =
    omega (arith, along-reads _ _ _ _ _ _ (omega arith) c.requires.1 c.along-x.ensures c.along-y.ensures c.args.self.now.room)

pub get_dot-d-requires : goal.get_dot-d-requires
get_dot-d-requires c =
    along-reads _ _ _ _ _ _ (omega arith) c.requires.1 c.along-x.ensures c.along-y.ensures c.args.self.now.room

pub loop-k-preserved : goal.loop-k-preserved
loop-k-preserved c =
    let below : c.loop-k.k < c.args.self.now.h = omega arith in
    dot-more _ _ _ _ _ _ below c.loop-k.auto.k (dot-room c.args.self.now.h c.args.self.now.w below c.requires.1 c.requires.0) c.loop-k.invariant
    (c.get_dot-d.ensures ∙ quarter-dot _ _ _ _ _ _ below c.along-x.ensures c.along-y.ensures _) c.set_dot.ensures
