-- A bit told by a mask, and the dot that it leaves where it is put or blended. Assumes nothing.
use mathlib.Core.Path.{◌≡◌, refl, sym, ap, ◌∙◌}
use mathlib.Core.Logic.{◌≢◌, ⊎_elim}
use mathlib.Core.Bool.{Bool, true, false, not, ◌&&◌, true≢false}
use mathlib.Core.List.{List}
use Prim.Native.Nat.{ℕ, zero, suc, ◌+◌, ◌-◌, ◌*◌, ◌/◌, ◌%◌, ◌^◌, ◌≤◌, ◌<◌}
use native.Mathlib.Nat.{mod-lt, zero-mul, one-mul, add-zero}
use native.Mathlib.Omega.{arith}
use lib.Bits.{bit_and, and_high}
use lib.Pow.{pow_pos, pow-add}
use lib.ListN.{length, get_or}
use lib.Dec.{eqb}
use borrow.Author.Tests.{eqb-true, eqb-false, ne_eqb}
use Rattle.std.specs.Prelude.{if◌then◌else◌}
use Rattle.colour.specs.Colour.{with_alpha}
use Rattle.colour.specs.declared.RGBA.{RGBA}
use Rattle.colour.proofs.Laws.{blended-none, blended-full}
use Rattle.dots.specs.Dots.{tab, dot_at, set_dot, change, within}
use Rattle.dots.proofs.Laws.{below, get_or-tab, change-idle, change-by, run_none, run-turn, run-old}
use Rattle.bits.specs.Bits.{landed, alpha_landed}
use Rattle.bits.specs.Steps.{byte_on, bit_on}

masked : (b q : ℕ) → bit_and b (2 ^ q) ≡ b / 2 ^ q % 2 * 2 ^ q
masked b q =
    let e : 2 ^ q ≡ 2 ^ (1 + q) - 2 ^ q = omega (arith, pow-add 2 1 q) in
    ap (bit_and b) e ∙ and_high b 1 q

-- a bit is 0, and the test fails, or it is 1 and the test holds
pub data Told (on : Bool) (x : ℕ) : Type 0 where
  off : on ≡ false → x ≡ 0 → Told on x
  lit : on ≡ true → x ≡ 1 → Told on x

pub told : (b q : ℕ) {p : ℕ} → p ≡ 2 ^ q → Told (not (eqb (bit_and b p) 0)) (b / 2 ^ q % 2)
told b q e = rw (e, masked) (go (b / 2 ^ q % 2) (2 ^ q) (mod-lt _ (omega arith)) (pow_pos q))
  where
    go : (x p : ℕ) → x < 2 → 0 < p → Told (not (eqb (x * p) 0)) x
    go zero p h z = off (rw (zero-mul p)) refl
    go (suc zero) p h z = lit (rw (one-mul p, ne_eqb p 0 (λ e. omega arith))) refl
    go (suc (suc x)) p h z = absurd (omega arith)

pub is_one : {bit : ℕ} → bit < 2 → bit ≢ 0 → bit ≡ 1
is_one {bit} h z = ⊎_elim (λ u. omega arith) (λ u. absurd (z (omega arith))) (below 0 bit)

-- ---- the dot that a bit leaves

pub on-landed : {on : Bool} (blend : Bool) (c d : RGBA) → on ≡ true → with_alpha c 255 ≡ landed blend (with_alpha c (if on then 255 else 0)) d
unfolding landed
on-landed true c d e = rw e (blended-full (with_alpha c 255) d refl)
on-landed false c d e = rw e

pub off-kept : {on blend : Bool} (c d : RGBA) → on ≡ false → blend ≡ true → d ≡ landed blend (with_alpha c (if on then 255 else 0)) d
unfolding landed
off-kept c d e f = rw (e, f) (blended-none (with_alpha c 0) d refl)

pub off-put : {on blend : Bool} (c d : RGBA) → on ≡ false → blend ≡ false → with_alpha c 0 ≡ landed blend (with_alpha c (if on then 255 else 0)) d
unfolding landed
off-put c d e f = rw (e, f)

-- ---- the dots of a stretched bit

pub bit-left : (bit : ℕ) (blend : Bool) (c : RGBA) (at n : ℕ) (l : List ℕ) → (blend && eqb bit 0) ≡ true → l ≡ bit_on (alpha_landed blend c) bit at n l
unfolding bit_on
bit-left bit true c at n l e =
    let z : bit ≡ 0 = eqb-true bit 0 e in
    change-idle (within at (at + n)) _ l (λ i _. rw z (off-kept {on = false} c (dot_at l i) refl refl))
bit-left bit false c at n l e = absurd (true≢false (sym e))

pub bit-filled : (bit : ℕ) (blend : Bool) (c : RGBA) (at n : ℕ) (l : List ℕ) → bit < 2 → (blend && eqb bit 0) ≡ false
    → change (within at (at + n)) (λ _ _. with_alpha c (bit * 255)) l ≡ bit_on (alpha_landed blend c) bit at n l
unfolding bit_on landed
bit-filled bit true c at n l h e =
    let o : bit ≡ 1 = is_one h (eqb-false bit 0 e) in
    rw o (change-by (within at (at + n)) _ _ l (λ i _. on-landed {on = true} true c (dot_at l i) refl))
bit-filled bit false c at n l h e = refl

-- ---- the bits of a byte: k are written, from dot `at` on

alpha : {on : Bool} {x : ℕ} → Told on x → (if on then 255 else 0) ≡ x * 255
alpha (off e f) = rw (e, f)
alpha (lit e f) = rw (e, f)

module _ (byte at : ℕ) (c : RGBA) (blend : Bool) (l : List ℕ) where
  abbrev g : ℕ → RGBA → RGBA
  g i d = alpha_landed blend c (byte / 2 ^ (7 - (i - at)) % 2 * 255) d

  pub byte-start : l ≡ byte_on (alpha_landed blend c) byte at 0 l
  unfolding byte_on
  byte-start = rw add-zero (run_none at g l)

  pub byte_next : {k : ℕ} {masks b m : List ℕ} {old d : RGBA} → k < 8 → (at + k) * 4 + 4 ≤ length l → masks ≡ tab 8 (λ k. 2 ^ (7 - k))
      → b ≡ byte_on (alpha_landed blend c) byte at k l → old ≡ dot_at b (at + k)
      → d ≡ landed blend (with_alpha c (if not (eqb (bit_and byte (get_or masks k 0)) 0) then 255 else 0)) old
      → m ≡ set_dot b (at + k) d → m ≡ byte_on (alpha_landed blend c) byte at (k + 1) l
  unfolding byte_on
  byte_next {k} {masks} {b} {m} {old} h r et eb eo ed em =
      let a : at + k - at ≡ k = omega arith in
      let n : at + (k + 1) ≡ at + k + 1 = omega arith in
      let bit = alpha (told byte (7 - k) {p = get_or masks k 0} (rw et (get_or-tab 8 (λ k. 2 ^ (7 - k)) k 0 h))) in
      rw n (run-turn at (at + k) g l (omega arith) r eb (ed ∙ rw (bit, run-old at (at + k) g l eb eo, a)) em)
