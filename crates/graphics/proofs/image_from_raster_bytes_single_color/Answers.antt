-- `graphics::image_from_raster_bytes_single_color` meets its contract. Assumes nothing.
use Rattle.graphics.proofs.image_from_raster_bytes_single_color.Goals as goal

pub returns : goal.returns
returns c =
    let e = c.raster_of.ensures in
    record { value = rw (← e) c.image_from_bytes.ensures.value; out_after = rw (← e) c.image_from_bytes.ensures.out_after }
