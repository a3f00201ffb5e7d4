-- `entries::draw_entry` meets its contract. Assumes nothing.
use Rattle.std.proofs.Common.{arith}
use Rattle.entries.proofs.Drawing.{entry-rules, entry-none, entry-rows, part-fits}
use Rattle.entries.proofs.draw_entry.Goals as goal

pub returns-then-last-first : goal.returns-then-last-first
returns-then-last-first c =
    entry-none _ c.args.e _ _ _ _ _ c.max-first.ensures c.min-last.ensures c.requires.0.some c.if-last-first.true

pub draw_part-requires-clause-part : goal.draw_part-requires-clause-part
draw_part-requires-clause-part c = ((entry-rules _ _ _ _ c.requires.1).kind, omega arith, omega arith)

pub draw_part-requires-clause-fits : goal.draw_part-requires-clause-fits
draw_part-requires-clause-fits c =
    (c.requires.0.wide, part-fits c.args.«data».now c.args.e _ _ _ _ c.args.buf.now c.max-first.ensures c.min-last.ensures c.requires.0 (entry-rules _ _ _ _ c.requires.1).across c.if-last-first.false)

pub returns : goal.returns
returns c =
    entry-rows _ c.args.e _ _ _ _ _ c.max-first.ensures c.min-last.ensures c.requires.0.some c.draw_part.ensures
