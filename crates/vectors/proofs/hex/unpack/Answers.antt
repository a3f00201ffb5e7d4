use Rattle.vectors.proofs.Digits.{bytes_next}
use Rattle.vectors.proofs.Fronts.{front-none, front-next}
use Rattle.std.proofs.Common.{arith}
use Rattle.vectors.specs.Hex.{bytes_at}
use Rattle.vectors.proofs.hex.unpack.Goals as goal

pub loop-i-init : goal.loop-i-init
unfolding bytes_at
loop-i-init c = front-none _

pub loop-i-preserved : goal.loop-i-preserved
loop-i-preserved c = front-next _ c.loop-i.invariant (omega arith) (rw c.byte_at.ensures (bytes_next _ _ _))
