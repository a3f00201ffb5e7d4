-- Laws of whole pictures. Assumes nothing.
use Rattle.std.proofs.Common.{◌≡◌, sym, ap, ◌∙◌, List, ℕ, ◌+◌, ◌-◌, ◌*◌, ◌/◌, ◌%◌, ◌≤◌, ◌<◌, mul_comm, mul-zero, mod-lt, div-add-mod', arith, length, get_or, ltb, lt-ltb, le-ltb, if◌then◌else◌}
use Rattle.colour.specs.declared.RGBA.{RGBA}
use Rattle.dots.specs.Dots.{dot_at, chan, change, within}
use Rattle.dots.proofs.Laws.{length-change, change-picked, change-kept, change-same, change-idle, run_none, Place, before, inside, past, place, within-yes, within_low, within-high, within-true}
use Rattle.dots.proofs.Blocks.{in_row}
use Rattle.moves.specs.declared.turned.Turn.{Turn}
use Rattle.moves.specs.Moves.{lowered_on, padded_at, padded_on, copied_to, rgb_to, column_to, row_to, turned_wide, turned_tall, turned_on}
use Rattle.moves.proofs.Bytes.{length_over, over-picked, over-kept}
use Rattle.moves.proofs.Rects.{factor}
use Rattle.moves.proofs.Turns.{sides, column-out, row_out, column-back, row_back, in-picture, dot-room, dot-turned}

-- ---- lowered

module _ (n by : ℕ) (paper : RGBA) (l : List ℕ) where
  pub length-lowered : length (lowered_on n by paper l) ≡ length l
  unfolding lowered_on
  length-lowered = length-change _ _ l

  -- a dot of the paper, one that was moved, and one past both
  pub lowered-paper : (i : ℕ) → i < by → i * 4 + 4 ≤ length l → dot_at (lowered_on n by paper l) i ≡ paper
  unfolding lowered_on
  lowered-paper i h r = change-picked _ _ l i (within-yes 0 (by + n) i (omega arith) (omega arith)) r ∙ rw (lt-ltb i by h)

  pub lowered-dot : (i : ℕ) → by ≤ i → i < by + n → i * 4 + 4 ≤ length l → dot_at (lowered_on n by paper l) i ≡ dot_at l (i - by)
  unfolding lowered_on
  lowered-dot i h k r = change-picked _ _ l i (within-yes 0 (by + n) i (omega arith) k) r ∙ rw (le-ltb i by h)

  pub lowered-past : (i : ℕ) → by + n ≤ i → dot_at (lowered_on n by paper l) i ≡ dot_at l i
  unfolding lowered_on
  lowered-past i h = change-kept _ _ l i (within-high 0 (by + n) i h)

-- moved by nothing
pub lowered-by-none : (n : ℕ) (paper : RGBA) (l : List ℕ) → l ≡ lowered_on n 0 paper l
unfolding lowered_on
lowered-by-none n paper l =
    change-idle _ _ l (λ i e. rw (le-ltb i 0 (omega arith)) (ap (dot_at l) (omega arith)))

-- nothing moved: only paper
pub lowered_none : (by : ℕ) (paper : RGBA) (l : List ℕ) → lowered_on 0 by paper l ≡ change (within 0 by) (λ _ _. paper) l
unfolding lowered_on
lowered_none by paper l = change-same _ _ _ _ l (λ i c. at i (place 0 by i))
  where
    at : (i : ℕ) → Place 0 by i
        → (if within 0 (by + 0) i then (if ltb i by then paper else dot_at l (i - by)) else dot_at l i)
        ≡ (if within 0 by i then paper else dot_at l i)
    at i (before u) = absurd (omega arith)
    at i (inside u v) = rw (within-yes 0 (by + 0) i u (omega arith), within-yes 0 by i u v, lt-ltb i by v)
    at i (past u v) = rw (within-high 0 (by + 0) i (omega arith), within-high 0 by i v)

-- ---- padded

module _ (w h wide left : ℕ) (paper : RGBA) (l : List ℕ) where
  -- the dot at column c, row r: one of the paper before the row, one that was moved, one of the paper after it
  pub padded-at : (c r : ℕ) → c < wide → r < h → wide * h * 4 ≤ length l → dot_at (padded_on w h wide left paper l) (r * wide + c) ≡ padded_at w left paper l c r
  unfolding padded_on
  padded-at c r a b room =
      let i = r * wide + c in
      let p = in-picture wide h c r a b in
      let e = in_row r wide i (omega arith) (omega arith) in
      let m : i - r * wide ≡ c = omega arith in
      change-picked _ _ l i (within-yes 0 (wide * h) i (omega arith) (omega (arith, mul_comm wide h))) (omega (arith, mul_comm wide h)) ∙ rw (e.0, e.1, m)

  pub padded-before : (c r : ℕ) → c < left → padded_at w left paper l c r ≡ paper
  unfolding padded_at
  padded-before c r a = rw (within_low left (left + w) c a)

  pub padded-dot : (x r : ℕ) → x < w → padded_at w left paper l (left + x) r ≡ dot_at l (r * w + x)
  unfolding padded_at
  padded-dot x r a =
      let e : left + x - left ≡ x = omega arith in
      rw (within-yes left (left + w) (left + x) (omega arith) (omega arith), e)

  pub padded-after : (c r : ℕ) → left + w ≤ c → padded_at w left paper l c r ≡ paper
  unfolding padded_at
  padded-after c r a = rw (within-high left (left + w) c a)

  pub padded-past : (i : ℕ) → wide * h ≤ i → dot_at (padded_on w h wide left paper l) i ≡ dot_at l i
  unfolding padded_on
  padded-past i a = change-kept _ _ l i (within-high 0 (wide * h) i a)

-- no rows
pub padded-none : (w wide left : ℕ) (paper : RGBA) (l : List ℕ) → l ≡ padded_on w 0 wide left paper l
unfolding padded_on
padded-none w wide left paper l = rw mul-zero (run_none 0 _ l)

-- no wider than it was
pub padded-same : (w h : ℕ) (paper : RGBA) (l : List ℕ) → l ≡ padded_on w h w 0 paper l
unfolding padded_on
padded-same w h paper l =
    change-idle _ _ l
    (λ i t.
    let b = within-true 0 (w * h) i t in
    let c = mod-lt i {m = w} (factor h w i (omega (arith, mul_comm w h))) in
    let e : i ≡ i / w * w + i % w = sym (div-add-mod' i w) in
    ap (dot_at l) e ∙ sym (padded-dot w h w 0 paper l (i % w) (i / w) c) ∙ ap (λ (n : ℕ). padded_at w 0 paper l n (i / w)) (omega arith))

-- ---- turned

module _ (by : Turn) (w h : ℕ) (src l : List ℕ) where
  pub length-turned : length (turned_on by w h src l) ≡ length l
  unfolding turned_on
  length-turned = length-change _ _ l

  -- 01's sentence: dot (x, y) goes to that column and row
  pub turned-dot : (x y : ℕ) → x < w → y < h → w * h * 4 ≤ length l
      → dot_at (turned_on by w h src l) (row_to by w h x y * turned_wide by w h + column_to by w h x y) ≡ dot_at src (y * w + x)
  unfolding turned_on
  turned-dot x y a b room =
      let c = column_to by w h x y in
      let r = row_to by w h x y in
      let u = column-out by w h x y a b in
      let v = row_out by w h x y a b in
      change-picked _ _ l (r * turned_wide by w h + c)
      (within-yes 0 (w * h) _ (omega arith) (omega (arith, in-picture (turned_wide by w h) (turned_tall by w h) c r u v, sides by w h)))
      (dot-room (turned_wide by w h) (turned_tall by w h) u v (rw (sides by w h) room))
      ∙ sym (dot-turned by w h src r u _)
      ∙ rw (column-back by w h x y a b, row_back by w h x y a b)

  pub turned-past : (i : ℕ) → w * h ≤ i → dot_at (turned_on by w h src l) i ≡ dot_at l i
  unfolding turned_on
  turned-past i a = change-kept _ _ l i (within-high 0 (w * h) i a)

  -- no dots
  pub turned_none : w * h ≡ 0 → l ≡ turned_on by w h src l
  unfolding turned_on
  turned_none e = rw e (run_none 0 _ l)

-- ---- copied

module _ (n : ℕ) (src l : List ℕ) where
  pub length-copied : length (copied_to n src l) ≡ length l
  unfolding copied_to
  length-copied = length-change _ _ l

  pub copied-dot : (i : ℕ) → i < n → i * 4 + 4 ≤ length l → dot_at (copied_to n src l) i ≡ dot_at src i
  unfolding copied_to
  copied-dot i a room = change-picked _ _ l i (within-yes 0 n i (omega arith) a) room

  pub copied-past : (i : ℕ) → n ≤ i → dot_at (copied_to n src l) i ≡ dot_at l i
  unfolding copied_to
  copied-past i a = change-kept _ _ l i (within-high 0 n i a)

-- ---- written as r, g, b

module _ (n : ℕ) (src l : List ℕ) where
  pub length-rgb : length (rgb_to n src l) ≡ length l
  unfolding rgb_to
  length-rgb = length_over _ _ l

  -- byte j of dot k, j below 3
  pub rgb-byte : (k j : ℕ) → k < n → j < 3 → n * 3 ≤ length l → get_or (rgb_to n src l) (k * 3 + j) 0 ≡ chan (dot_at src k) j
  unfolding rgb_to
  rgb-byte k j a b room =
      let q : (k * 3 + j) / 3 ≡ k = omega arith in
      let m : (k * 3 + j) % 3 ≡ j = omega arith in
      over-picked _ _ l (k * 3 + j) (within-yes 0 (n * 3) _ (omega arith) (omega arith)) (omega arith) ∙ rw (q, m)

  pub rgb-past : (i : ℕ) → n * 3 ≤ i → get_or (rgb_to n src l) i 0 ≡ get_or l i 0
  unfolding rgb_to
  rgb-past i a = over-kept _ _ l i (within-high 0 (n * 3) i a)
