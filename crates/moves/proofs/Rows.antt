-- A row widened in three steps, and the rows from the last to the first. Assumes nothing.
use Rattle.std.proofs.Common.{◌≡◌, ap, ◌∙◌, List, length, if◌then◌else◌, ℕ, ◌+◌, ◌-◌, ◌*◌, ◌/◌, ◌%◌, ◌≤◌, ◌<◌, arith, add-mul, mul_comm, zero-mul, mul-le-mul_left, mul-le-mul_right}
use Rattle.colour.specs.declared.RGBA.{RGBA}
use Rattle.dots.specs.Dots.{dot_at, change, within}
use Rattle.dots.proofs.Laws.{length-change, change-picked, change-kept, change-past, change-ext, run-back, Place, before, inside, past, place, within-yes, within_low, within-high}
use Rattle.dots.proofs.Blocks.{in_row}
use Rattle.moves.specs.Moves.{padded_at, padded_on}

-- r narrow rows end before r wide ones do
pub narrower : (w wide left r : ℕ) → left + w ≤ wide → r * w ≤ r * wide
narrower w wide left r fits = mul-le-mul_left {m = w} {n = wide} r (omega arith)

-- ---- a row: its dots moved, then the paper before them, then the paper after them

module _ (w wide left r : ℕ) (paper : RGBA) (l : List ℕ) where
  abbrev start : ℕ
  start = r * wide

  abbrev by : ℕ
  by = start + left - r * w

  abbrev end : ℕ
  end = start + left + w

  abbrev moved : List ℕ
  moved = change (within (r * w + by) (r * w + by + w)) (λ i _. dot_at l (i - by)) l

  abbrev papered : List ℕ
  papered = change (within start (start + left)) (λ _ _. paper) moved

  abbrev done : List ℕ
  done = change (within end (end + (start + wide - end))) (λ _ _. paper) papered

  abbrev row_dot : ℕ → RGBA → RGBA
  row_dot i _ = padded_at w left paper l (i - start) r

  same_length : length papered ≡ length l
  same_length = length-change _ _ moved ∙ length-change _ _ l

  row_done : left + w ≤ wide → done ≡ change (within start (start + wide)) row_dot l
  unfolding padded_at
  row_done fits =
      change-ext _ row_dot l done (length-change _ _ papered ∙ same_length)
      (λ i room. at i room (place start (start + wide) i) (place (start + left) end i))
      (λ i room. change-past _ _ papered i (rw same_length room) ∙ change-past _ _ moved i (rw length-change room) ∙ change-past _ _ l i room)
    where
      at : (i : ℕ) → i * 4 + 4 ≤ length l → Place start (start + wide) i → Place (start + left) end i
          → dot_at done i ≡ (if within start (start + wide) i then row_dot i (dot_at l i) else dot_at l i)
      at i room (before u) q =
          rw (within_low start (start + wide) i u)
          (change-kept _ _ papered i (within_low end _ i (omega arith)) ∙ change-kept _ _ moved i (within_low start _ i u) ∙ change-kept _ _ l i (within_low (r * w + by) _ i (omega arith)))
      at i room (past u v) q =
          rw (within-high start (start + wide) i v)
          (change-kept _ _ papered i (within-high end _ i (omega arith)) ∙ change-kept _ _ moved i (within-high start _ i (omega arith)) ∙ change-kept _ _ l i (within-high (r * w + by) _ i (omega (arith, narrower w wide left r fits))))
      at i room (inside u v) (before x) =
          rw (within-yes start (start + wide) i u v, within_low left (left + w) (i - start) (omega arith))
          (change-kept _ _ papered i (within_low end _ i (omega arith)) ∙ change-picked _ _ moved i (within-yes start _ i u x) (rw length-change room))
      at i room (inside u v) (past x y) =
          rw (within-yes start (start + wide) i u v, within-high left (left + w) (i - start) (omega arith))
          (change-picked _ _ papered i (within-yes end _ i y (omega arith)) (rw same_length room))
      at i room (inside u v) (inside x y) =
          rw (within-yes start (start + wide) i u v, within-yes left (left + w) (i - start) (omega arith) (omega arith))
          (change-kept _ _ papered i (within_low end _ i y) ∙ change-kept _ _ moved i (within-high start _ i x)
          ∙ change-picked _ _ l i (within-yes (r * w + by) _ i (omega (arith, narrower w wide left r fits)) (omega (arith, narrower w wide left r fits))) room
          ∙ ap (dot_at l) (omega (arith, narrower w wide left r fits)))

  pub row-three : {d : ℕ} {a b m : List ℕ} → left + w ≤ wide → d ≡ by
      → a ≡ change (within (r * w + d) (r * w + d + w)) (λ i _. dot_at l (i - d)) l
      → b ≡ change (within start (start + left)) (λ _ _. paper) a
      → m ≡ change (within end (end + (start + wide - end))) (λ _ _. paper) b
      → m ≡ change (within start (start + wide)) row_dot l
  row-three fits ed ea eb em = em ∙ rw (eb, ea, ed) (row_done fits)

-- a padded dot is known by the row that it is read from
padded-from : (w left r c : ℕ) (paper : RGBA) (b l : List ℕ) → ((j : ℕ) → j < r * w + w → dot_at b j ≡ dot_at l j)
    → padded_at w left paper b c r ≡ padded_at w left paper l c r
unfolding padded_at
padded-from w left r c paper b l h = by (place left (left + w) c)
  where
    by : Place left (left + w) c
        → (if within left (left + w) c then dot_at b (r * w + (c - left)) else paper) ≡ (if within left (left + w) c then dot_at l (r * w + (c - left)) else paper)
    by (before u) = rw (within_low left (left + w) c u)
    by (inside u v) = rw (within-yes left (left + w) c u v) (h _ (omega arith))
    by (past u v) = rw (within-high left (left + w) c v)

-- ---- the rows from r on are widened

abbrev pub padded_dot : ℕ → ℕ → ℕ → RGBA → List ℕ → ℕ → RGBA → RGBA
padded_dot w wide left paper l i _ = padded_at w left paper l (i % wide) (i / wide)

module _ (w h wide left : ℕ) (paper : RGBA) (l : List ℕ) where
  pub back-room : {r : ℕ} → 0 < r → r ≤ h → wide * h * 4 ≤ length l → ((r - 1) * wide + wide) * 4 ≤ length l
  back-room {r} u v room =
      omega (arith, add-mul (r - 1) 1 wide, mul-le-mul_right {m = r - 1 + 1} {n = h} wide (omega arith), mul_comm wide h)

  pub back-next : {r : ℕ} {b m : List ℕ} → 0 < r → r ≤ h → left + w ≤ wide → b ≡ change (within (r * wide) (h * wide)) (padded_dot w wide left paper l) l
      → m ≡ change (within ((r - 1) * wide) ((r - 1) * wide + wide)) (λ i _. padded_at w left paper b (i - (r - 1) * wide) (r - 1)) b
      → m ≡ change (within ((r - 1) * wide) (h * wide)) (padded_dot w wide left paper l) l
  back-next {r} {b} u v fits eb em =
      let k = r - 1 in
      let e : k + 1 ≡ r = omega arith in
      let next : k * wide + wide ≡ r * wide = omega (arith, add-mul k 1 wide, ap (λ (n : ℕ). n * wide) e) in
      let high = mul-le-mul_right {m = r} {n = h} wide v in
      let wider = narrower w wide left k fits in
      run-back (k * wide) (r * wide) (h * wide) _ (padded_dot w wide left paper l) l (omega arith) (omega arith)
      (λ i a z d.
      let p = in_row k wide i a (omega (arith, next)) in
      rw (p.0, p.1)
      (padded-from w left k (i - k * wide) paper b l
      (λ j y. ap (λ (x : List ℕ). dot_at x j) eb ∙ change-kept _ (padded_dot w wide left paper l) l j (within_low (r * wide) (h * wide) j (omega arith)))))
      eb (rw next at em)

  pub back_end : {b : List ℕ} → b ≡ change (within (0 * wide) (h * wide)) (padded_dot w wide left paper l) l → b ≡ padded_on w h wide left paper l
  unfolding padded_on
  back_end e = e ∙ rw (zero-mul, mul_comm h wide)
