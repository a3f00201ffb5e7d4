-- The loop over a row of bits that is not stretched, eight dots at a time. Assumes nothing.
use Rattle.std.proofs.Common.{◌≡◌, refl, ap, List, ℕ, ◌+◌, ◌-◌, ◌*◌, ◌/◌, ◌%◌, ◌^◌, ◌≤◌, ◌<◌, min, get_or, arith}
use Rattle.colour.specs.declared.RGBA.{RGBA}
use Rattle.dots.proofs.Laws.{run_none, run_more}
use Rattle.bits.specs.Bits.{bit_alpha, Shown, bits_on}
use Rattle.bits.specs.Steps.{byte_on}

-- the byte of the next dots is there
pub byte-shown : (from : ℕ) {count i size : ℕ} → Shown from 1 count size → i < count → from + i / 8 < size
byte-shown from {i = i} s h = omega (arith, s i h)

-- what a byte says of each of its dots
byte-bit : (bytes : List ℕ) (from i k : ℕ) → i % 8 ≡ 0 → k < 8 → get_or bytes (from + i / 8) 0 / 2 ^ (7 - k) % 2 * 255 ≡ bit_alpha bytes from ((i + k) / 1)
unfolding bit_alpha
byte-bit bytes from i k a h =
    let q : (i + k) / 1 / 8 ≡ i / 8 = omega arith in
    let r : (i + k) / 1 % 8 ≡ k = omega arith in
    rw (q, r)

-- the bytes of a row of count dots
abbrev pub bytes-of-row : ℕ → ℕ
bytes-of-row count = count / 8 + min 1 (count % 8)

module _ (f : ℕ → RGBA → RGBA) (bytes : List ℕ) (from at count : ℕ) (l : List ℕ) where
  -- the dots of x bytes are done in b
  pub record Done (x : ℕ) (b : List ℕ) : Type 0 where
    pub sofar : b ≡ bits_on f bytes from 1 at (min (x * 8) count) l

  pub done_none : Done 0 l
  unfolding bits_on
  done_none = let e : at + min (0 * 8) count ≡ at = omega arith in record { sofar = rw e (run_none at _ l) }

  pub done-more : {x n : ℕ} {b m : List ℕ} → Done x b → x < bytes-of-row count → n ≡ min (count - x * 8) 8
      → m ≡ byte_on f (get_or bytes (from + x) 0) (at + x * 8) n b → Done (x + 1) m
  unfolding bits_on byte_on
  done-more {x} {n} {b} s u e em =
      let i : min (x * 8) count ≡ x * 8 = omega arith in
      let j : at + min ((x + 1) * 8) count ≡ at + x * 8 + n = omega arith in
      record { sofar = rw j (run_more at (at + x * 8) (at + x * 8 + n) _ _ l (omega arith) (omega arith) same (rw i at s.sofar) em) }
    where
      same : (q : ℕ) → at + x * 8 ≤ q → q < at + x * 8 + n → (d : RGBA)
          → f (get_or bytes (from + x) 0 / 2 ^ (7 - (q - (at + x * 8))) % 2 * 255) d ≡ f (bit_alpha bytes from ((q - at) / 1)) d
      same q v w d =
          let y : x * 8 / 8 ≡ x = omega arith in
          let z : x * 8 + (q - (at + x * 8)) ≡ q - at = omega arith in
          ap (λ (a : ℕ). f a d) (rw (y, z) at (byte-bit bytes from (x * 8) (q - (at + x * 8)) (omega arith) (omega arith)))

  pub done-all : {x : ℕ} {b : List ℕ} → Done x b → bytes-of-row count ≤ x → b ≡ bits_on f bytes from 1 at count l
  done-all {x} s u = let e : min (x * 8) count ≡ count = omega arith in rw e at s.sofar
