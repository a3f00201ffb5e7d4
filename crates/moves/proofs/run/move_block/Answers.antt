-- `moves::run::move_block` meets its contract. Assumes nothing.
use Rattle.std.proofs.Common.{rules}
use Rattle.moves.proofs.Pieces.{moved-by-way}
use Rattle.moves.proofs.run.move_block.Goals as goal

pub returns : goal.returns
returns c = moved-by-way _ _ _ _ _ (search rules) c.copy_run.ensures c.copy_run-2.ensures
