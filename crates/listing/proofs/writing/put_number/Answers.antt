use Rattle.std.proofs.Common.{arith}
use Rattle.listing.proofs.Digits.{spelling-next}
use Rattle.listing.proofs.writing.put_number.Goals as goal

pub loop-i-preserved : goal.loop-i-preserved
loop-i-preserved c = spelling-next _ _ _ c.loop-i.invariant (omega arith)
