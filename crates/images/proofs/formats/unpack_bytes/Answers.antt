-- `images::formats::unpack_bytes` meets its contract. Assumes nothing.
use mathlib.Core.Path.{refl}
use Rattle.bits.specs.Bits.{bit_alpha}
use Rattle.images.proofs.formats.unpack_bytes.Goals as goal

pub returns : goal.returns
unfolding bit_alpha
returns c = refl
