-- `listing::writing::digits_of` meets its contract.
use Rattle.std.proofs.Common.{arith}
use Rattle.listing.proofs.Digits.{counted}
use Rattle.listing.proofs.writing.digits_of.Goals as goal

pub returns : goal.returns
returns c = let e = c.ilog10.ensures in (omega (arith, counted _ _ c.max.ensures e.power_le e.next_power_gt), omega arith)
