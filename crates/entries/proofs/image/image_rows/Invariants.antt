-- `entries::image::image_rows` meets its contract. Assumes nothing.
use Rattle.std.proofs.Common.{◌≡◌, ◌+◌}
use Rattle.dots.specs.Dots.{drawn}
use Rattle.areas.specs.Areas.{area_on}
use Rattle.entries.specs.Entries.{image_pixel}
use Rattle.entries.proofs.image.image_rows.Given as goal

abbrev pub invariant-loop-j : goal.invariant-loop-j
invariant-loop-j l =
    l.buf ≡ area_on l.area.wide l.area.x l.area.y l.area.w l.j (λ i j d. drawn l.multiply (image_pixel l.«data» l.e i (l.own + j)) d) l.initial.buf
