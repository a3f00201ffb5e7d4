-- `pixels::bytes::alphas` meets its contract. Assumes nothing.
use Rattle.pixels.proofs.ByteWise.{alphas-none, alphas-some, alphas-full, alphas-mixed}
use Rattle.pixels.proofs.bytes.alphas.Goals as goal

pub returns-then-p-eq-TRANSPARENT : goal.returns-then-p-eq-TRANSPARENT
returns-then-p-eq-TRANSPARENT c = alphas-none _ c.if-multiply.true c.if-p-eq-TRANSPARENT.true

pub returns-else-p-eq-TRANSPARENT : goal.returns-else-p-eq-TRANSPARENT
returns-else-p-eq-TRANSPARENT c = alphas-some _ c.if-multiply.true c.if-p-eq-TRANSPARENT.false

pub returns-then-p-eq-OPAQUE : goal.returns-then-p-eq-OPAQUE
returns-then-p-eq-OPAQUE c = alphas-full _ c.if-multiply.false c.if-p-eq-OPAQUE.true

pub returns-else-p-eq-OPAQUE : goal.returns-else-p-eq-OPAQUE
returns-else-p-eq-OPAQUE c = alphas-mixed _ c.if-multiply.false c.if-p-eq-OPAQUE.false
