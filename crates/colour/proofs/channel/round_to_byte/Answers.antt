-- `colour::channel::round_to_byte` meets its contract, by `Doubled`. Assumes nothing.
use Rattle.std.proofs.Common.{◌≡◌, ℕ, ◌+◌, ◌/◌, false, T, pos, sym, refl, ap, ◌∙◌, subst, arith}
use lib.Ieee.{Float, fin, binary32, mul, of_bits}
use Rattle.colour.proofs.Doubled.{Rounds, rounds}
use Rattle.colour.proofs.channel.round_to_byte.Goals as goal
use Rattle.colour.proofs.channel.round_to_byte.Goals.{Start}

is-two : fin false 1 (pos 1) ≡ of_bits binary32 0x4000_0000
unfolding of_bits
is-two = refl

known : (c : Start) → Rounds c.args.v (mul binary32 c.args.v (of_bits binary32 0x4000_0000))
known c = subst (λ (y : Float). Rounds c.args.v (mul binary32 c.args.v y)) is-two (rounds c.args.v (subst T (sym c.well_formed.0.1) tt) c.requires)

pub truncating_f32_to_u64-t-requires : goal.truncating_f32_to_u64-t-requires
truncating_f32_to_u64-t-requires c = record { lower_bound = (known (goal.at.truncating_f32_to_u64-t-requires c).Start).lowest; upper_bound = (known (goal.at.truncating_f32_to_u64-t-requires c).Start).highest }

pub overflow_add-result : goal.overflow_add-result
overflow_add-result c = omega (arith, (known (goal.at.overflow_add-result c).Start).small, c.truncating_f32_to_u64-t.ensures)

pub overflow_cast-result : goal.overflow_cast-result
overflow_cast-result c = omega (arith, (known (goal.at.overflow_cast-result c).Start).small, c.truncating_f32_to_u64-t.ensures)

pub returns : goal.returns
returns c = ap (λ (t : ℕ). (t + 1) / 2) c.truncating_f32_to_u64-t.ensures ∙ (known (goal.at.returns c).Start).right
