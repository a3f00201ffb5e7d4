-- `moves::move_down` meets its contract. Assumes nothing.
use Rattle.moves.proofs.Runs.{lowered-two}
use Rattle.moves.proofs.lower.move_down.Goals as goal

pub returns : goal.returns
returns c = lowered-two _ _ _ _ c.move_on.ensures c.fill_run.ensures
