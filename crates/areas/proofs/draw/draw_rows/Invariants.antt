-- `areas::draw::draw_rows` meets its contract. Assumes nothing.
use Rattle.std.proofs.Common.{◌≡◌}
use Rattle.areas.specs.Areas.{area_on}
use Rattle.areas.proofs.draw.draw_rows.Given as goal

abbrev pub invariant-loop-j : goal.invariant-loop-j
invariant-loop-j g l =
    l.buf ≡ area_on l.area.wide l.area.x l.area.y l.area.w l.j (λ _ _ d. g.B.Brush.dot l.brush d) l.initial.buf
