-- `entries::image::image_row` meets its contract. Assumes nothing.
use Rattle.std.proofs.Common.{◌∙◌, arith}
use Rattle.entries.proofs.Images.{image-rules, row-size, row-in-part, row-shown, image-is-row}
use Rattle.entries.proofs.image.image_row.Goals as goal

pub nonzero_div-from : goal.nonzero_div-from
nonzero_div-from c = (image-rules _ _ c.requires.row.0).fy

pub overflow_add-from : goal.overflow_add-from
overflow_add-from c = rw (row-size _ c.div_ceil-size.ensures) (omega (arith, row-in-part (image-rules _ _ c.requires.row.0) c.requires.row.1))

pub draw_bits-requires : goal.draw_bits-requires
draw_bits-requires c =
    let p = c.requires in
    let rules = image-rules _ _ p.row.0 in
    (p.room.1, rules.fx, p.room.0, rw (row-size _ c.div_ceil-size.ensures) (row-shown rules p.row.1 p.row.2))

pub returns : goal.returns
returns c =
    let a = c.args in
    image-is-row a.«data».now a.e _ a.at a.w a.j a.buf.now (c.draw_bits.ensures ∙ rw (c.requires.color, row-size _ c.div_ceil-size.ensures))
