-- Putting a byte meets its contract. The loop's invariant: the first `k` bits are put. Assumes nothing.
use Rattle.std.proofs.Common.{◌≡◌}
use Rattle.bits.specs.Bits.{alpha_landed}
use Rattle.bits.specs.Steps.{byte_on}
use Rattle.bits.proofs.unpack.PutBitBrush.draw_byte.Given as goal

abbrev pub invariant-loop-k : goal.invariant-loop-k
invariant-loop-k l = l.buf ≡ byte_on (alpha_landed l.self.blend l.self.color) l.byte l.at l.k l.initial.buf
