-- Runs that are moved, copied, and written as r, g, b, byte by byte. Assumes nothing.
use Rattle.std.proofs.Common.{◌≡◌, refl, ap, ◌∙◌, List, ◌++◌, length, get_or, set, take, drop, ◌||◌, if◌then◌else◌, ltb, ℕ, ◌+◌, ◌-◌, ◌*◌, ◌/◌, ◌%◌, ◌≤◌, ◌<◌, arith, lt-ltb, le-ltb}
use Rattle.colour.specs.declared.RGBA.{RGBA}
use Rattle.dots.specs.Dots.{dot_at, chan, change, within}
use Rattle.dots.proofs.Laws.{change-by, change-same, change-then, Place, before, inside, past, place, within-yes, within_low, within-high, within-true}
use Rattle.moves.specs.Parts.{over}
use Rattle.moves.specs.Moves.{lowered_on, copied_to}
use Rattle.moves.proofs.Bytes.{over-up, over-down, over-kept, over-part, over-change}

-- ---- bytes from place `from` on move to place `to`: the last are moved, down to byte i of them

abbrev pub moved_byte : ℕ → ℕ → List ℕ → ℕ → ℕ
moved_byte from to l j = get_or l (from + (j - to)) 0

pub moved-next : (from to n : ℕ) (l : List ℕ) {i : ℕ} {b : List ℕ} → from ≤ to → to + n ≤ length l → 0 < i → i ≤ n
    → b ≡ over (within (to + i) (to + n)) (moved_byte from to l) l
    → set b (to + (i - 1)) (get_or b (from + (i - 1)) 0) ≡ over (within (to + (i - 1)) (to + n)) (moved_byte from to l) l
moved-next from to n l {i} {b} h room some upto e =
    let up : to + i ≡ to + (i - 1) + 1 = omega arith in
    let old : get_or b (from + (i - 1)) 0 ≡ get_or l (from + (i - 1)) 0 =
    ap (λ (x : List ℕ). get_or x (from + (i - 1)) 0) e ∙ over-kept _ _ l (from + (i - 1)) (within_low (to + i) (to + n) (from + (i - 1)) (omega arith)) in
    over-down (to + (i - 1)) (to + n) _ l (omega arith) room (rw up at e) (old ∙ ap (λ (k : ℕ). get_or l k 0) (omega arith)) refl

pub moved-end : (at by count : ℕ) (l : List ℕ) {b : List ℕ} → (at + by + count) * 4 ≤ length l
    → b ≡ over (within ((at + by) * 4 + 0) ((at + by) * 4 + count * 4)) (moved_byte (at * 4) ((at + by) * 4) l) l
    → b ≡ change (within (at + by) (at + by + count)) (λ i _. dot_at l (i - by)) l
moved-end at by count l r e =
    let low : (at + by) * 4 + 0 ≡ (at + by) * 4 = omega arith in
    let high : (at + by) * 4 + count * 4 ≡ (at + by + count) * 4 = omega arith in
    e ∙ rw (low, high)
    (over-change (at + by) (at + by + count) at l l r
    ∙ change-by _ _ _ l (λ j t. let w = within-true (at + by) (at + by + count) j t in ap (dot_at l) (omega arith)))

-- ---- the dots moved, and then the paper before them

module _ (n by : ℕ) (paper : RGBA) (l : List ℕ) where
  pub lowered-two : {b m : List ℕ} → b ≡ change (within by (by + n)) (λ i _. dot_at l (i - by)) l
      → m ≡ change (within 0 (0 + by)) (λ _ _. paper) b → m ≡ lowered_on n by paper l
  unfolding lowered_on
  lowered-two eb em = em ∙ rw eb (change-then _ _ _ _ l ∙ change-same _ _ _ _ l (λ i c. at i (place by (by + n) i)))
    where
      at : (i : ℕ) → Place by (by + n) i
          → (if within by (by + n) i || within 0 (0 + by) i
          then (if within 0 (0 + by) i then paper else dot_at l (i - by))
          else dot_at l i)
          ≡ (if within 0 (by + n) i then (if ltb i by then paper else dot_at l (i - by)) else dot_at l i)
      at i (before u) =
          rw (within_low by (by + n) i u, within-yes 0 (0 + by) i (omega arith) (omega arith), within-yes 0 (by + n) i (omega arith) (omega arith), lt-ltb i by u)
      at i (inside u v) =
          rw (within-yes by (by + n) i u v, within-high 0 (0 + by) i (omega arith), within-yes 0 (by + n) i (omega arith) v, le-ltb i by u)
      at i (past u v) =
          rw (within-high by (by + n) i v, within-high 0 (0 + by) i (omega arith), within-high 0 (by + n) i v)

-- ---- n dots from dot `from` of src on are copied to those from dot `to` on: as bytes of a part

pub copied-part : (src : List ℕ) (from : ℕ) (l : List ℕ) (to n : ℕ) {ys : List ℕ} → (from + n) * 4 ≤ length src → (to + n) * 4 ≤ length l
    → ys ≡ take ((from + n) * 4 - from * 4) (drop (from * 4) src)
    → take (to * 4) l ++ (ys ++ drop ((to + n) * 4 - to * 4) (drop (to * 4) l)) ≡ change (within to (to + n)) (λ k _. dot_at src (from + (k - to))) l
copied-part src from l to n h r ey =
    over-part (to * 4) ((to + n) * 4) (from * 4) src l (omega arith) r (omega arith) (omega arith) ey ∙ over-change to (to + n) from src l r

pub copied-first : (n : ℕ) (src l : List ℕ) → change (within 0 (0 + n)) (λ k _. dot_at src (0 + (k - 0))) l ≡ copied_to n src l
unfolding copied_to
copied-first n src l =
    change-same _ _ _ _ l
    (λ i c.
    let end : 0 + n ≡ n = omega arith in
    let own : 0 + (i - 0) ≡ i = omega arith in
    rw (end, own))

-- ---- dots are written as r, g, b: the first k are

abbrev pub rgb_byte : List ℕ → ℕ → ℕ
rgb_byte src i = chan (dot_at src (i / 3)) (i % 3)

-- byte j of dot k
byte_at : (src : List ℕ) (k i j : ℕ) → j < 3 → i ≡ k * 3 + j → chan (dot_at src k) j ≡ rgb_byte src i
byte_at src k i j h e =
    let q : i / 3 ≡ k = omega arith in
    let m : i % 3 ≡ j = omega arith in
    rw (q, m)

pub tripled-next : (src l : List ℕ) (k : ℕ) {b : List ℕ} {d : RGBA} → (k + 1) * 3 ≤ length l → b ≡ over (within 0 (k * 3)) (rgb_byte src) l → d ≡ dot_at src k
    → set (set (set b (k * 3) d.r) (k * 3 + 1) d.g) (k * 3 + 2) d.b ≡ over (within 0 ((k + 1) * 3)) (rgb_byte src) l
unfolding chan
tripled-next src l k room sofar e =
    let two : k * 3 + 1 + 1 ≡ k * 3 + 2 = omega arith in
    let three : k * 3 + 2 + 1 ≡ (k + 1) * 3 = omega arith in
    let r = over-up 0 (k * 3) (rgb_byte src) l (omega arith) (omega arith) sofar (ap (λ (x : RGBA). x.r) e ∙ byte_at src k (k * 3) 0 (omega arith) (omega arith)) refl in
    let g = over-up 0 (k * 3 + 1) (rgb_byte src) l (omega arith) (omega arith) r (ap (λ (x : RGBA). x.g) e ∙ byte_at src k (k * 3 + 1) 1 (omega arith) refl) refl in
    let last = over-up 0 (k * 3 + 2) (rgb_byte src) l (omega arith) (omega arith) (rw two at g) (ap (λ (x : RGBA). x.b) e ∙ byte_at src k (k * 3 + 2) 2 (omega arith) refl) refl in
    rw three at last
