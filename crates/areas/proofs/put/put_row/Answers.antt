-- `areas::put::put_row` meets its contract. Assumes nothing.
use Rattle.std.proofs.Common.{◌∙◌}
use Rattle.areas.proofs.Pixels.{row-missing, row-given}
use Rattle.areas.proofs.put.put_row.Goals as goal

pub returns-then-n-from : goal.returns-then-n-from
returns-then-n-from c =
    let a = c.args in
    row-missing a.multiply a.pixels.now a.n a.from a.at a.w a.buf.now c.if-n-from.true

pub returns : goal.returns
returns c =
    let a = c.args in
    c.put_run.ensures ∙ row-given a.multiply a.pixels.now a.n a.from a.at a.w a.buf.now c.min-count.ensures
