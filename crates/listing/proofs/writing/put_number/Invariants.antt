-- `listing::writing::put_number` meets its contract: which digits are written.
use Rattle.listing.proofs.Digits.{Spelling}
use Rattle.listing.proofs.writing.put_number.Given as goal

abbrev pub invariant-loop-i : goal.invariant-loop-i
invariant-loop-i l = Spelling l.n l.at l.initial.out l.out l.i l.rest
