-- Where a dot stands in a run made of blocks, as a picture is made of rows. Assumes nothing.
use mathlib.Core.Path.{◌≡◌}
use Prim.Native.Nat.{ℕ, ◌+◌, ◌-◌, ◌*◌, ◌/◌, ◌%◌, ◌≤◌, ◌<◌}
use native.Mathlib.Nat.{div-eq_of_lt-le, div-add-mod', add-mul}
use native.Mathlib.Omega.{arith}

-- a dot of block x
pub in_block : (at x n i : ℕ) → at + x * n ≤ i → i < at + x * n + n → (i - at) / n ≡ x
in_block at x n i h k = div-eq_of_lt-le n (omega arith) (omega (arith, add-mul x 1 n))

-- a dot of row j of a picture w dots wide
pub in_row : (j w i : ℕ) → j * w ≤ i → i < j * w + w → (i / w ≡ j) × (i % w ≡ i - j * w)
in_row j w i h k =
    let q : i / w ≡ j = div-eq_of_lt-le w h (omega (arith, add-mul j 1 w)) in
    let d : i / w * w + i % w ≡ i = div-add-mod' i w in
    let r : j * w + i % w ≡ i = rw q at d in
    (q, omega arith)
