-- `moves::widening::widen_row` meets its contract. Assumes nothing.
use Rattle.moves.proofs.Rows.{row-three}
use Rattle.moves.proofs.widening.widen_row.Goals as goal

pub returns : goal.returns
returns c =
    row-three _ _ _ _ _ _ c.requires.0 c.apart-by.ensures c.move_run.ensures c.fill_run.ensures c.fill_run-2.ensures
