-- `moves::copy_dots` meets its contract. Assumes nothing.
use Rattle.std.proofs.Common.{◌∙◌}
use Rattle.moves.proofs.Runs.{copied-first}
use Rattle.moves.proofs.copy.copy_dots.Goals as goal

pub returns : goal.returns
returns c = c.copy_run.ensures ∙ copied-first _ _ _
