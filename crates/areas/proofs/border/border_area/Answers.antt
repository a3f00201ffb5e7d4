-- `areas::border::border_area` meets its contract. Assumes nothing.
use Rattle.areas.proofs.Borders.{border}
use Rattle.areas.proofs.border.border_area.Goals as goal

pub returns : goal.returns
returns c =
    border _ _ _ _ c.requires c.draw_area.ensures c.draw_area-2.ensures c.draw_area-3.ensures c.draw_area-4.ensures
