-- `vectors::hex::byte_at` meets its contract. Assumes nothing.
use Prim.Native.Nat.{◌+◌}
use lib.ListN.{get_or}
use native.Mathlib.Omega.{arith}
use Rattle.vectors.proofs.Digits.{digit-below, byte-digits}
use Rattle.vectors.proofs.hex.byte_at.Goals as goal

pub overflow_mul-result : goal.overflow_mul-result
overflow_mul-result c = record { fits = omega (arith, digit-below (get_or c.args.s.now c.args.at 0)) }

pub overflow_add-result : goal.overflow_add-result
overflow_add-result c =
    let s = c.args.s.now in let at = c.args.at in record { fits = omega (arith, digit-below (get_or s at 0), digit-below (get_or s (at + 1) 0)) }

pub returns : goal.returns
returns c = rw (byte-digits, ← c.digit.ensures, ← c.digit-2.ensures)
