-- `pixels::bytes::inks` meets its contract. Assumes nothing.
use Rattle.pixels.proofs.ByteWise.{inks-none, inks-some, inks-blended}
use Rattle.pixels.proofs.bytes.inks.Goals as goal

pub returns-then-p-eq-TRANSPARENT : goal.returns-then-p-eq-TRANSPARENT
returns-then-p-eq-TRANSPARENT c = inks-none _ c.if-multiply.true c.if-p-eq-TRANSPARENT.true

pub returns-then-multiply : goal.returns-then-multiply
returns-then-multiply c = inks-some _ c.if-multiply.true c.if-p-eq-TRANSPARENT.false

pub returns : goal.returns
returns c = inks-blended _ c.if-multiply.false
