-- The loop over a stretched row of bits, bit by bit: x bits, which are i dots, are done in b. Assumes nothing.
use mathlib.Core.Path.{◌≡◌, refl, ap, ◌∙◌}
use mathlib.Core.List.{List}
use Prim.Native.Nat.{ℕ, ◌+◌, ◌-◌, ◌*◌, ◌/◌, ◌≤◌, ◌<◌, min}
use native.Mathlib.Nat.{div-eq_of_lt-le, add-zero, zero-mul, one-mul, add-mul, mul-le-mul_left}
use native.Mathlib.Omega.{arith}
use lib.ListN.{length}
use Rattle.colour.specs.declared.RGBA.{RGBA}
use Rattle.dots.proofs.Laws.{length-change, run_none, run_more}
use Rattle.dots.proofs.Blocks.{in_block}
use Rattle.bits.specs.Bits.{bit_at, bit_alpha, Shown, bits_on}
use Rattle.bits.specs.Steps.{bit_on}

module _ (f : ℕ → RGBA → RGBA) (bytes : List ℕ) (from fx at count : ℕ) (l : List ℕ) where
  pub record Stretch (x i : ℕ) (b : List ℕ) : Type 0 where
    pub upto : i ≤ count
    pub whole : i < count → i ≡ x * fx
    pub same : length b ≡ length l
    pub sofar : b ≡ bits_on f bytes from fx at i l

  pub stretch-start : Stretch 0 0 l
  unfolding bits_on
  stretch-start = record { upto = omega arith; whole = λ h. omega (arith, zero-mul fx); same = refl; sofar = rw add-zero (run_none at _ l) }

  -- bit x is there
  pub stretch-shown : {x i : ℕ} {b : List ℕ} → 0 < fx → Shown from fx count (length bytes) → Stretch x i b → i < count → (x ≤ i) × (from + x / 8 < length bytes)
  stretch-shown {x} {i} p s r h =
      let e : i ≡ x * fx = r.whole h in
      let q : i / fx ≡ x = div-eq_of_lt-le fx (omega arith) (omega (arith, add-mul x 1 fx, one-mul fx)) in
      (omega (arith, mul-le-mul_left x p), rw q at (s i h))

  pub stretch-next : {x i n bit : ℕ} {b m : List ℕ} → Stretch x i b → i < count → n ≡ min fx (count - i) → bit ≡ bit_at bytes from x
      → m ≡ bit_on f bit (at + i) n b → Stretch (x + 1) (i + n) m
  unfolding bits_on bit_on bit_alpha
  stretch-next {x} {i} {n} {bit} {b} r h en eb em =
      let e : i ≡ x * fx = r.whole h in
      record {
        upto = omega arith;
        whole = λ u. omega (arith, add-mul x 1 fx, one-mul fx);
        same = ap length em ∙ length-change _ _ b ∙ r.same;
        sofar =
            let o : at + (i + n) ≡ at + i + n = omega arith in
            rw o (run_more at (at + i) (at + i + n) _ (λ q d. f (bit_alpha bytes from ((q - at) / fx)) d) l (omega arith) (omega arith)
            (λ q u v d. rw (in_block at x fx q (omega arith) (omega arith), eb)) r.sofar em);
      }

  pub stretch-end : {x i : ℕ} {b : List ℕ} → Stretch x i b → count ≤ i → b ≡ bits_on f bytes from fx at count l
  stretch-end {x} {i} r h = let e : i ≡ count = omega (arith, r.upto) in rw e at r.sofar
