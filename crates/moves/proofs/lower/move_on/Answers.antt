use Rattle.std.proofs.Common.{◌≡◌, ◌+◌, ◌*◌, ◌/◌, ◌%◌, add-zero, arith}
use Rattle.dots.proofs.Laws.{run_none}
use Rattle.moves.proofs.Pieces.{piece-next}
use Rattle.moves.proofs.lower.move_on.Goals as goal

pub loop-i-init : goal.loop-i-init
loop-i-init c =
    let e : c.args.n % 16384 + c.args.n / 16384 * 16384 ≡ c.args.n = omega arith in
    rw e (run_none _ _ _)

pub loop-i-preserved : goal.loop-i-preserved
loop-i-preserved c = piece-next _ _ _ _ _ (omega arith) (omega arith) c.loop-i.invariant c.move_block.ensures

pub returns : goal.returns
returns c =
    let moved = piece-next _ _ _ 0 _ (omega arith) (omega arith) c.loop-i.invariant c.move_run.ensures in
    rw add-zero at moved
