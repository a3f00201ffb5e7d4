-- `vectors::hex::number_at` meets its contract: what the digits so far spell.
use Rattle.std.proofs.Common.{◌≡◌}
use Rattle.vectors.specs.Hex.{number_at}
use Rattle.vectors.proofs.hex.number_at.Given as goal

abbrev pub invariant-loop-i : goal.invariant-loop-i
invariant-loop-i l = l.n ≡ number_at l.s l.at l.i
