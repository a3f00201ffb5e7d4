use Rattle.pixels.proofs.Crispness.{all-crisp-none, all-crisp-next}
use Rattle.pixels.proofs.crisp.crisp_piece.Goals as goal

pub loop-i-init : goal.loop-i-init
loop-i-init c = all-crisp-none _ _

pub loop-i-preserved : goal.loop-i-preserved
loop-i-preserved c = all-crisp-next _ _ _ c.loop-i.invariant c.load_dot.ensures c.still_crisp-yet.ensures
