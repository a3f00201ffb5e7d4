use Rattle.std.proofs.Common.{◌≡◌, ◌+◌, ◌*◌, ◌/◌, arith}
use Rattle.pixels.proofs.Crispness.{all-crisp-none, all-crisp-on, all-crisp-stop, all-crisp-end}
use Rattle.pixels.proofs.crisp.all_crisp.Goals as goal

pub loop-k-init : goal.loop-k-init
loop-k-init c = all-crisp-none _ _

pub returns-then-not-crisp_piece : goal.returns-then-not-crisp_piece
returns-then-not-crisp_piece c =
    all-crisp-stop _ _ _ 32 _ (omega arith) c.if-not-crisp_piece.true c.crisp_piece.ensures

pub loop-k-preserved : goal.loop-k-preserved
loop-k-preserved c =
    let e : c.loop-k.k * 32 + 32 ≡ (c.loop-k.k + 1) * 32 = omega arith in
    rw e at (all-crisp-on _ _ _ 32 c.loop-k.invariant c.if-not-crisp_piece.false c.crisp_piece.ensures)

pub returns : goal.returns
returns c =
    let e : c.loop-k.k ≡ c.args.count / 32 = omega arith in
    all-crisp-end _ _ _ _ (omega arith) (rw e at c.loop-k.invariant) c.crisp_piece-2.ensures
