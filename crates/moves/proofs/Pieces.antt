-- A run moved in pieces: one piece by way of another buffer, and pieces from the last to the first. Assumes nothing.
use Rattle.std.proofs.Common.{◌≡◌, ap, ◌∙◌, List, length, ℕ, ◌+◌, ◌-◌, ◌*◌, ◌≤◌, arith}
use Rattle.colour.specs.declared.RGBA.{RGBA}
use Rattle.dots.specs.Dots.{dot_at, change, within}
use Rattle.dots.proofs.Laws.{change-picked, change-kept, change-by, run-back, within-yes, within_low, within-true}

-- ---- n dots from dot `at` on go to another buffer, and from there `by` on from where they were

pub moved-by-way : (at by n : ℕ) (l w : List ℕ) {b m : List ℕ} → n * 4 ≤ length w
    → b ≡ change (within 0 (0 + n)) (λ k _. dot_at l (at + (k - 0))) w
    → m ≡ change (within (at + by) (at + by + n)) (λ k _. dot_at b (0 + (k - (at + by)))) l
    → m ≡ change (within (at + by) (at + by + n)) (λ k _. dot_at l (k - by)) l
moved-by-way at by n l w room eb em =
    em ∙ change-by _ _ _ l
    (λ k t.
    let i = within-true (at + by) (at + by + n) k t in
    let j = 0 + (k - (at + by)) in
    ap (λ (x : List ℕ). dot_at x j) eb ∙ change-picked _ _ w j (within-yes 0 (0 + n) j (omega arith) (omega arith)) (omega arith) ∙ ap (dot_at l) (omega arith))

-- ---- the dots of l moved `by` on, a piece at a time, the last first

abbrev pub moved_dot : ℕ → List ℕ → ℕ → RGBA → RGBA
moved_dot by l k _ = dot_at l (k - by)

-- the piece of count dots from dot `at` on, up to dot i
pub piece-next : (by hi : ℕ) (l : List ℕ) {i : ℕ} (at count : ℕ) {b m : List ℕ} → at + count ≡ i → by + i ≤ hi
    → b ≡ change (within (by + i) hi) (moved_dot by l) l
    → m ≡ change (within (at + by) (at + by + count)) (λ k _. dot_at b (k - by)) b
    → m ≡ change (within (by + at) hi) (moved_dot by l) l
piece-next by hi l {i} at count {b} e h eb em =
    let low : at + by ≡ by + at = omega arith in
    let high : by + at + count ≡ by + i = omega arith in
    run-back (by + at) (by + i) hi (λ k _. dot_at b (k - by)) (moved_dot by l) l (omega arith) h
    (λ k u v d. ap (λ (x : List ℕ). dot_at x (k - by)) eb ∙ change-kept _ (moved_dot by l) l (k - by) (within_low (by + i) hi (k - by) (omega arith)))
    eb (rw (low, high) at em)
