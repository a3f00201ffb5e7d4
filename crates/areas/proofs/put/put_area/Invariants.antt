-- `areas::put_area` meets its contract. Assumes nothing.
use Rattle.std.proofs.Common.{◌≡◌, ◌+◌, ◌*◌}
use Rattle.areas.specs.Areas.{area_on, pixel_drawn}
use Rattle.areas.proofs.put.put_area.Given as goal

abbrev pub invariant-loop-j : goal.invariant-loop-j
invariant-loop-j l =
    l.buf ≡ area_on l.area.wide l.area.x l.area.y l.area.w l.j (λ i j d. pixel_drawn l.multiply l.pixels l.n (j * l.stride + i) d) l.initial.buf
