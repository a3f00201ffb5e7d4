-- `colour::channel::multiply_channel` meets its contract. Assumes nothing.
use Rattle.std.proofs.Common.{◌≡◌, ℕ, T, sym, refl, ap, ◌∙◌, subst, arith}
use lib.Ieee.{Float, binary32, mul, div, of_bits, of_int}
use Rattle.colour.specs.Channel.{float, product, in_byte, round_away, multiply_byte}
use Rattle.colour.proofs.Accurate.{product-in-byte, multiplied}
use Rattle.colour.proofs.channel.multiply_channel.Goals as goal

-- 255.0 is the byte 255 as a float
is-full : float 255 ≡ of_bits binary32 0x437f_0000
unfolding of_bits of_int
is-full = refl

-- the value that is rounded, as MIR has it
as_written : (s c a : ℕ) → product s c a ≡ mul binary32 (mul binary32 (div binary32 (mul binary32 (div binary32 (float s) (of_bits binary32 0x437f_0000)) (float c)) (of_bits binary32 0x437f_0000)) (div binary32 (float a) (of_bits binary32 0x437f_0000))) (of_bits binary32 0x437f_0000)
unfolding product
as_written s c a =
    ap (λ (x : Float). mul binary32 (mul binary32 (div binary32 (mul binary32 (div binary32 (float s) x) (float c)) x) (div binary32 (float a) x)) x) is-full

pub round_to_byte-requires : goal.round_to_byte-requires
round_to_byte-requires c =
    let p = c.args in
    subst (λ (x : Float). T (in_byte x)) (as_written p.s p.c p.a) (product-in-byte p.s p.c p.a (omega arith) (omega arith) (omega arith))

pub returns : goal.returns
unfolding multiply_byte
returns c =
    let p = c.args in
    multiplied p.s p.c p.a c.round_to_byte.result (omega arith) (omega arith) (omega arith) (c.round_to_byte.ensures ∙ ap round_away (sym (as_written p.s p.c p.a)))
