-- `vectors::hex::unpack` meets its contract: which bytes are written so far.
use Rattle.vectors.proofs.Fronts.{Front}
use Rattle.vectors.specs.Hex.{bytes_at}
use Rattle.vectors.proofs.hex.unpack.Given as goal

abbrev pub invariant-loop-i : goal.invariant-loop-i
invariant-loop-i l = Front (bytes_at l.s l.at l.i) l.i l.initial.out l.out
