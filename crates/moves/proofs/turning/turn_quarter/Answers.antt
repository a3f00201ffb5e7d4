use Rattle.std.proofs.Common.{◌≡◌, ◌∙◌, ◌+◌, ◌*◌, ◌/◌, ◌%◌, arith}
use Rattle.moves.specs.Moves.{turned_on}
use Rattle.moves.proofs.Rects.{no-columns, columns-more, all-columns}
use Rattle.moves.proofs.turning.turn_quarter.Goals as goal

pub loop-s-init : goal.loop-s-init
loop-s-init c = no-columns _ _ _ _ _ _

pub loop-s-preserved : goal.loop-s-preserved
loop-s-preserved c =
    let e : (c.loop-s.s + 1) * 16 ≡ c.loop-s.s * 16 + 16 = omega arith in
    rw e (columns-more _ _ _ _ _ _ (omega arith) c.loop-s.invariant c.turn_rows.ensures)

pub returns : goal.returns
unfolding turned_on
returns c =
    let e : c.loop-s.s * 16 ≡ c.args.h / 16 * 16 = omega arith in
    let end : c.args.h / 16 * 16 + c.args.h % 16 ≡ c.args.h = omega arith in
    let last = columns-more _ _ _ _ _ _ (omega arith) (rw e at c.loop-s.invariant) c.turn_rows-2.ensures in
    rw end at last ∙ all-columns _ _ _ _
