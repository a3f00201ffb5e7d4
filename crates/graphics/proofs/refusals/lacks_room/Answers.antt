-- `graphics::refusals::lacks_room` meets its contract. Assumes nothing.
use mathlib.Core.Path.{refl}
use native.Mathlib.Omega.{arith}
use Rattle.numbers.proofs.Sides.{area}
use Rattle.graphics.specs.Decoding.{lacks_room}
use Rattle.graphics.proofs.refusals.lacks_room.Goals as goal

pub overflow_mul-result-3 : goal.overflow_mul-result-3
overflow_mul-result-3 c = omega (arith, area c.requires.0 c.requires.1)

pub overflow_mul-result-4 : goal.overflow_mul-result-4
overflow_mul-result-4 c = omega (arith, area c.requires.0 c.requires.1)

pub returns : goal.returns
unfolding lacks_room
returns c = refl
