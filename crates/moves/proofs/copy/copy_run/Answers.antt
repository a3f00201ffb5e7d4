-- `moves::copy_run` meets its contract. Assumes nothing.
use Rattle.moves.proofs.Runs.{copied-part}
use Rattle.moves.proofs.copy.copy_run.Goals as goal

pub returns : goal.returns
returns c = copied-part _ _ _ _ _ c.requires.0 c.requires.1 c.copy_from_slice.ensures.after
