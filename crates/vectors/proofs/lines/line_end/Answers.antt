-- `vectors::lines::line_end` meets its contract.
use Rattle.std.proofs.Common.{arith}
use Rattle.vectors.proofs.Newlines.{line-some, line-none}
use Rattle.vectors.proofs.lines.line_end.Goals as goal

pub returns-in-Some : goal.returns-in-Some
returns-in-Some c =
    let l = line-some c.args.s.now c.args.at c.newline.ensures c.in-Some.i c.in-Some.is in (l.0, omega arith, omega arith)

pub returns-in-None : goal.returns-in-None
returns-in-None c = (line-none c.args.s.now c.args.at c.newline.ensures c.requires c.in-None.is, c.requires, omega arith)
