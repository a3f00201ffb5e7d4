use Rattle.std.proofs.Common.{sym, arith}
use Rattle.rows.proofs.Rules.{firsts-take}
use Rattle.rows.proofs.firsts.Goals as goal

pub returns : goal.returns
returns c = sym (firsts-take _ c.args.entries.now (omega arith))
