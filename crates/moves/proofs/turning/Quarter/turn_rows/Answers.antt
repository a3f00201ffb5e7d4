use Rattle.moves.proofs.Rects.{no_rows, row_more}
use Rattle.moves.proofs.turning.Quarter.turn_rows.Goals as goal

pub loop-r-init : goal.loop-r-init
loop-r-init c = no_rows _ _ _ _ _ _

pub loop-r-preserved : goal.loop-r-preserved
loop-r-preserved c = row_more _ _ _ _ _ _ c.loop-r.invariant c.turn_row.ensures
