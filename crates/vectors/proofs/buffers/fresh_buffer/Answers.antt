-- `vectors::buffers::fresh_buffer` meets its contract. Assumes nothing.
use mathlib.Core.Path.{refl}
use Rattle.vectors.specs.Buffers.{all}
use Rattle.vectors.proofs.buffers.fresh_buffer.Goals as goal

pub returns : goal.returns
unfolding all
returns c = refl
