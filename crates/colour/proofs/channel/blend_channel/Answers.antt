-- `colour::channel::blend_channel` meets its contract. Assumes nothing.
use Rattle.std.proofs.Common.{◌+◌, ◌-◌, ◌*◌, ◌≤◌, mul-le-mul_right, arith}
use Rattle.colour.specs.Channel.{blend_byte}
use Rattle.colour.proofs.Laws.{by-256}
use Rattle.colour.proofs.channel.blend_channel.Goals as goal
use Rattle.colour.proofs.channel.blend_channel.Goals.{Start}

low : (c : Start) → c.args.c * c.args.a ≤ 255 * c.args.a
low c = mul-le-mul_right c.args.a (omega arith)

high : (c : Start) → c.args.s * (255 - c.args.a) ≤ 255 * (255 - c.args.a)
high c = mul-le-mul_right (255 - c.args.a) (omega arith)

pub overflow_mul-t : goal.overflow_mul-t
overflow_mul-t c = omega (arith, low (goal.at.overflow_mul-t c).Start)

pub overflow_mul-t-2 : goal.overflow_mul-t-2
overflow_mul-t-2 c = omega (arith, high (goal.at.overflow_mul-t-2 c).Start)

pub overflow_add-t : goal.overflow_add-t
overflow_add-t c = omega (arith, low (goal.at.overflow_add-t c).Start, high (goal.at.overflow_add-t c).Start)

pub overflow_add-t-2 : goal.overflow_add-t-2
overflow_add-t-2 c = omega (arith, low (goal.at.overflow_add-t-2 c).Start, high (goal.at.overflow_add-t-2 c).Start)

pub overflow_add-result : goal.overflow_add-result
overflow_add-result c = omega (arith, low (goal.at.overflow_add-result c).Start, high (goal.at.overflow_add-result c).Start)

pub overflow_cast-result : goal.overflow_cast-result
overflow_cast-result c = omega (arith, low (goal.at.overflow_cast-result c).Start, high (goal.at.overflow_cast-result c).Start)

pub returns : goal.returns
unfolding blend_byte
returns c = by-256 (c.args.c * c.args.a + c.args.s * (255 - c.args.a)) (omega (arith, low (goal.at.returns c).Start, high (goal.at.returns c).Start))
