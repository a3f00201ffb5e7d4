-- `drawing::put::put_on` meets its contract. Assumes nothing.
use native.Mathlib.Omega.{arith}
use Rattle.drawing.proofs.Growing.{grows-within, placing}
use Rattle.drawing.proofs.put.put_on.Goals as goal

pub overflow_cast-rows : goal.overflow_cast-rows
overflow_cast-rows c = omega (arith, grows-within _ _ _ c.requires.more _ c.requires.grows)

pub put_area-requires : goal.put_area-requires
put_area-requires c =
    let g = placing _ _ _ _ _ _ _ c.requires c.crop_pixels-c.ensures.0 c.crop_pixels-c.ensures.1 c.expand_to_height-answer.ensures.value c.expand_to_height-answer.ensures.buf_after in
    (g.fits, omega arith, c.requires.wide, g.tall)

pub returns : goal.returns
returns c =
    let g = placing _ _ _ _ _ _ _ c.requires c.crop_pixels-c.ensures.0 c.crop_pixels-c.ensures.1 c.expand_to_height-answer.ensures.value c.expand_to_height-answer.ensures.buf_after in
    record { value = g.answer; buf_after = g.bytes _ c.put_area.ensures }
