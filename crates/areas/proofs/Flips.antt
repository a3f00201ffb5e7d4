-- A piece of two rows flipped, the pieces of two rows, and the pairs of rows of an area. Assumes nothing.
use Rattle.std.proofs.Common.{◌≡◌, refl, sym, ap, ◌∙◌, ◌⊎◌, inl, inr, List, Bool, true, false, ◌&&◌, ◌||◌, ℕ, ◌+◌, ◌-◌, ◌*◌, ◌/◌, ◌%◌, ◌≤◌, ◌<◌, mul-le-mul_right, add-zero, add-mul, arith, length, if◌then◌else◌}
use mathlib.Core.Bool.{and-false, or-true, or_comm}
use Rattle.colour.specs.declared.RGBA.{RGBA}
use Rattle.colour.specs.Colour.{blended}
use Rattle.dots.specs.Dots.{dot_at, change, within}
use Rattle.dots.proofs.Laws.{below, change-picked, change-kept, change-none, change-same, change-where, change-by, change-then, change-more, Place, before, inside, past, place, within-yes, within_low, within-high, within-true, within-then, drawn-blended}
use Rattle.dots.proofs.Blocks.{in_row}
use Rattle.pixels.specs.Pixels.{pixels_on}
use Rattle.areas.specs.Areas.{Fits, in_area, area_on, flipped_on}
use Rattle.areas.specs.Steps.{pair_on}
use Rattle.areas.proofs.Laws.{at-column, run_row, row-room}

-- ---- runs

no_run : (a k : ℕ) → within a a k ≡ false
no_run a k = by (place a a k)
  where
    by : Place a a k → within a a k ≡ false
    by (before u) = within_low a a k u
    by (inside u v) = absurd (omega arith)
    by (past u v) = within-high a a k v

-- the first i dots of a run, and the n after them
run_more : (a i n k : ℕ) → within a (a + (i + n)) k ≡ (within a (a + i) k || within (a + i) (a + i + n) k)
run_more a i n k =
    let e : a + (i + n) ≡ a + i + n = omega arith in
    rw e (within-then a (a + i) (a + i + n) k (omega arith) (omega arith))

-- a run and one that starts in it or where it ends
run-cover : (a b c d k : ℕ) → a ≤ b → b ≤ c → c ≤ d → (within a c k || within b d k) ≡ within a d k
run-cover a b c d k p q r = by (place a c k) (place b d k)
  where
    by : Place a c k → Place b d k → (within a c k || within b d k) ≡ within a d k
    by (before u) s = rw (within_low a c k u, within_low b d k (omega arith), within_low a d k u)
    by (inside u v) s = rw (within-yes a c k u v, within-yes a d k u (omega arith))
    by (past u v) (before s) = absurd (omega arith)
    by (past u v) (inside s t) = rw (within-high a c k v, within-yes b d k s t, within-yes a d k u t)
    by (past u v) (past s t) = rw (within-high a c k v, within-high b d k t, within-high a d k t)

regroup : (a b c d : Bool) → ((a || c) || (b || d)) ≡ ((a || b) || (c || d))
regroup true b c d = refl
regroup false true true d = refl
regroup false true false d = refl
regroup false false c d = refl

spread : (s a t b c : Bool) → (s && ((a || t) || (b || c))) ≡ ((s && (a || c)) || ((s && t) || (s && b)))
spread false a t b c = refl
spread true true t b c = refl
spread true false true b c = sym (or-true c)
spread true false false b c = or_comm b c

either : (s t : Bool) → (s || t) ≡ true → (s ≡ true) ⊎ (t ≡ true)
either true t e = inl refl
either false t e = inr e

-- which of two runs a dot lies in
side : (a b n k : ℕ) → (within a (a + n) k || within b (b + n) k) ≡ true → ((a ≤ k) × (k < a + n)) ⊎ ((b ≤ k) × (k < b + n))
side a b n k e = by (either _ _ e)
  where
    by : (within a (a + n) k ≡ true) ⊎ (within b (b + n) k ≡ true) → ((a ≤ k) × (k < a + n)) ⊎ ((b ≤ k) × (k < b + n))
    by (inl u) = inl (within-true a (a + n) k u)
    by (inr u) = inr (within-true b (b + n) k u)

-- ---- a piece of n dots of two rows: the dots of each are taken from l, and drawn on the other's

module _ (top bottom n : ℕ) (l : List ℕ) where
  abbrev taken : ℕ → List ℕ → List ℕ
  taken from room = change (within 0 (0 + n)) (λ k _. dot_at l (from + (k - 0))) room

  -- the dots taken from dot `from` on, drawn on those of b from dot `at` on
  drawn-on : (from at : ℕ) (z b : List ℕ) {p m : List ℕ} → n * 4 ≤ length z → p ≡ taken from z → m ≡ pixels_on false p 0 at n b
      → m ≡ change (within at (at + n)) (λ k d. blended (dot_at l (from + (k - at))) d) b
  unfolding pixels_on
  drawn-on from at z b {p} room ep em =
      em
      ∙ change-by _ _ _ b
      (λ k t.
      let i = within-true at (at + n) k t in
      let j = 0 + (k - at) in
      let e : dot_at p j ≡ dot_at l (from + (k - at)) =
      ap (λ (x : List ℕ). dot_at x j) ep ∙ change-picked _ _ z j (within-yes 0 (0 + n) j (omega arith) (omega arith)) (omega arith) ∙ ap (dot_at l) (omega arith) in
      sym (drawn-blended (dot_at p j) (dot_at b k) refl) ∙ ap (λ (c : RGBA). blended c (dot_at b k)) e)

  -- a row that is its own mirror
  pub piece-one : (z : List ℕ) {p m : List ℕ} → top ≡ bottom → n * 4 ≤ length z → p ≡ taken bottom z → m ≡ pixels_on false p 0 top n l → m ≡ pair_on top bottom n l
  unfolding pair_on
  piece-one z e room ep em = drawn-on bottom top z l room ep em ∙ change-same _ _ _ _ l (λ k t. at k (place top (top + n) k))
    where
      at : (k : ℕ) → Place top (top + n) k
          → (if within top (top + n) k then blended (dot_at l (bottom + (k - top))) (dot_at l k) else dot_at l k)
          ≡ (if within top (top + n) k || within bottom (bottom + n) k
          then blended (dot_at l (if within top (top + n) k then k + (bottom - top) else k - (bottom - top))) (dot_at l k)
          else dot_at l k)
      at k (before u) = rw (within_low top (top + n) k u, within_low bottom (bottom + n) k (omega arith))
      at k (inside u v) = rw (within-yes top (top + n) k u v) (ap (λ (j : ℕ). blended (dot_at l j) (dot_at l k)) (omega arith))
      at k (past u v) = rw (within-high top (top + n) k v, within-high bottom (bottom + n) k (omega arith))

  -- two rows, one after the other
  pub piece-two : (y z : List ℕ) {p q b m : List ℕ} → (top ≡ bottom) ⊎ (top + n ≤ bottom) → (top ≡ bottom → ⊥) → n * 4 ≤ length y → n * 4 ≤ length z → p ≡ taken bottom y → q ≡ taken top z
      → b ≡ pixels_on false p 0 top n l → m ≡ pixels_on false q 0 bottom n b → m ≡ pair_on top bottom n l
  unfolding pair_on
  piece-two y z (inl e) different below above ep eq eb em = absurd (different e)
  piece-two y z {b = b} (inr apart) different below above ep eq eb em =
      drawn-on top bottom z b above eq em
      ∙ rw (drawn-on bottom top y l below ep eb) (change-then _ _ _ _ l ∙ change-same _ _ _ _ l (λ k t. at k (place top (top + n) k) (place bottom (bottom + n) k)))
    where
      at : (k : ℕ) → Place top (top + n) k → Place bottom (bottom + n) k
          → (if within top (top + n) k || within bottom (bottom + n) k
          then
          (if within bottom (bottom + n) k
          then blended (dot_at l (top + (k - bottom))) (if within top (top + n) k then blended (dot_at l (bottom + (k - top))) (dot_at l k) else dot_at l k)
          else blended (dot_at l (bottom + (k - top))) (dot_at l k))
          else dot_at l k)
          ≡ (if within top (top + n) k || within bottom (bottom + n) k
          then blended (dot_at l (if within top (top + n) k then k + (bottom - top) else k - (bottom - top))) (dot_at l k)
          else dot_at l k)
      at k (inside u v) s =
          rw (within-yes top (top + n) k u v, within_low bottom (bottom + n) k (omega arith)) (ap (λ (j : ℕ). blended (dot_at l j) (dot_at l k)) (omega arith))
      at k (before u) s = rw (within_low top (top + n) k u, within_low bottom (bottom + n) k (omega arith))
      at k (past u v) (before s) = rw (within-high top (top + n) k v, within_low bottom (bottom + n) k s)
      at k (past u v) (inside s t) =
          rw (within-high top (top + n) k v, within-yes bottom (bottom + n) k s t) (ap (λ (j : ℕ). blended (dot_at l j) (dot_at l k)) (omega arith))
      at k (past u v) (past s t) = rw (within-high top (top + n) k v, within-high bottom (bottom + n) k t)

-- ---- two rows: i dots of each are done in b

-- pieces of rows that are one or apart are, too
pub pair-apart : (top bottom w i n : ℕ) → (top ≡ bottom) ⊎ (top + w ≤ bottom) → i + n ≤ w → (top + i ≡ bottom + i) ⊎ (top + i + n ≤ bottom + i)
pair-apart top bottom w i n (inl e) h = inl (omega arith)
pair-apart top bottom w i n (inr a) h = inr (omega arith)

module _ (top bottom w : ℕ) (l : List ℕ) where
  abbrev pair_dot : ℕ → RGBA → RGBA
  pair_dot k d = blended (dot_at l (if within top (top + w) k then k + (bottom - top) else k - (bottom - top))) d

  abbrev done : ℕ → ℕ → Bool
  done i k = within top (top + i) k || within bottom (bottom + i) k

  abbrev pub Pair : ℕ → List ℕ → Type 0
  Pair i b = b ≡ change (done i) pair_dot l

  pub pair-start : Pair 0 l
  pair-start = change-none (done 0) pair_dot l (λ k. rw (add-zero top, add-zero bottom, no_run top k, no_run bottom k))

  -- the piece of n dots from dot i of each on
  pub pair-next : (top ≡ bottom) ⊎ (top + w ≤ bottom) → top ≤ bottom → (i n : ℕ) {b m : List ℕ} → Pair i b → i + n ≤ w
      → m ≡ pair_on (top + i) (bottom + i) n b → Pair (i + n) m
  unfolding pair_on
  pair-next apart order i n {b} {m} eb h em = next
    where
      picked : ℕ → Bool
      picked k = within (top + i) (top + i + n) k || within (bottom + i) (bottom + i + n) k

      -- a dot that is not done yet
      undone : (k : ℕ) → top + i ≤ k → (k < bottom) ⊎ (bottom + i ≤ k) → done i k ≡ false
      undone k u (inl v) = rw (within-high top (top + i) k u, within_low bottom (bottom + i) k v)
      undone k u (inr v) = rw (within-high top (top + i) k u, within-high bottom (bottom + i) k v)

      old : (k : ℕ) → top + i ≤ k → (k < bottom) ⊎ (bottom + i ≤ k) → dot_at b k ≡ dot_at l k
      old k u v = ap (λ (x : List ℕ). dot_at x k) eb ∙ change-kept (done i) pair_dot l k (undone k u v)

      here : (k : ℕ) → Place (top + i) (top + i + n) k → ((top + i ≤ k) × (k < top + i + n)) ⊎ ((bottom + i ≤ k) × (k < bottom + i + n)) → (top ≡ bottom) ⊎ (top + w ≤ bottom)
          → (d : RGBA) → blended (dot_at b (if within (top + i) (top + i + n) k then k + (bottom + i - (top + i)) else k - (bottom + i - (top + i)))) d ≡ pair_dot k d
      here k (inside u v) s a d =
          let e : bottom + i - (top + i) ≡ bottom - top = omega arith in
          rw (within-yes (top + i) (top + i + n) k u v, within-yes top (top + w) k (omega arith) (omega arith), e)
          (ap (λ (c : RGBA). blended c d) (old (k + (bottom - top)) (omega arith) (inr (omega arith))))
      here k (before u) (inl s) a d = absurd (omega arith)
      here k (before u) (inr s) a d = absurd (omega arith)
      here k (past u v) (inl s) a d = absurd (omega arith)
      here k (past u v) (inr s) (inl a) d = absurd (omega arith)
      here k (past u v) (inr s) (inr a) d =
          let e : bottom + i - (top + i) ≡ bottom - top = omega arith in
          rw (within-high (top + i) (top + i + n) k v, within-high top (top + w) k (omega arith), e)
          (ap (λ (c : RGBA). blended c d) (old (k - (bottom - top)) (omega arith) (inl (omega arith))))

      fresh : (k : ℕ) → ((top + i ≤ k) × (k < top + i + n)) ⊎ ((bottom + i ≤ k) × (k < bottom + i + n)) → (top ≡ bottom) ⊎ (top + w ≤ bottom) → done i k ≡ false
      fresh k (inl s) (inl a) = undone k s.0 (inr (omega arith))
      fresh k (inl s) (inr a) = undone k s.0 (inl (omega arith))
      fresh k (inr s) a = undone k (omega arith) (inr s.0)

      next : m ≡ change (done (i + n)) pair_dot l
      next =
          em
          ∙ change-by picked _ pair_dot b (λ k e. here k (place (top + i) (top + i + n) k) (side (top + i) (bottom + i) n k e) apart _)
          ∙ rw eb
          (change-more (done i) picked (done (i + n)) pair_dot l
          (λ k. rw (run_more top i n k, run_more bottom i n k) (regroup (within top (top + i) k) (within bottom (bottom + i) k) _ _))
          (λ k e. fresh k (side (top + i) (bottom + i) n k e) apart))

  pub pair_end : (i : ℕ) {b : List ℕ} → Pair i b → i ≡ w → b ≡ pair_on top bottom w l
  unfolding pair_on
  pair_end i eb e = rw e at eb

-- ---- pairs of rows: those above `top` and those from `bottom` on are turned

module _ (W x y w h : ℕ) (l : List ℕ) where
  abbrev flip_dot : ℕ → RGBA → RGBA
  flip_dot k d = blended (dot_at l ((y + (h - 1 - (k / W - y))) * W + (x + (k % W - x)))) d

  abbrev turned : ℕ → ℕ → ℕ → Bool
  turned top bottom k = within x (x + w) (k % W) && (within y top (k / W) || within bottom (y + h) (k / W))

  -- the first j and the last j are done in b
  abbrev pub Flip : ℕ → List ℕ → Type 0
  Flip j b = b ≡ change (turned (y + j) (y + (h - j))) flip_dot l

  pub flip-start : Flip 0 l
  flip-start =
      let e : h - 0 ≡ h = omega arith in
      change-none (turned (y + 0) (y + (h - 0))) flip_dot l (λ k. rw (add-zero y, e, no_run y (k / W), no_run (y + h) (k / W)) (and-false (within x (x + w) (k % W))))

  -- the next two rows, `top` and `last`, lie in a buffer of n bytes, and are one or apart
  pub record Ready (top last n : ℕ) : Type 0 where
    pub inside : (last * W + x + w) * 4 ≤ n
    pub apart : (top * W + x ≡ last * W + x) ⊎ (top * W + x + w ≤ last * W + x)
    pub order : top * W + x ≤ last * W + x

  module _ (fits : Fits W x y w h (length l)) (j : ℕ) (t : j + j < h) where
    abbrev top : ℕ
    top = y + j

    abbrev last : ℕ
    last = y + (h - 1 - j)

    order : top * W ≤ last * W
    order = mul-le-mul_right W (omega arith)

    pub flip-room : Ready top last (length l)
    flip-room =
        record {
          inside = row-room fits last (omega arith);
          apart = by (below top last);
          order = omega (arith, order);
        }
      where
        by : (top < last) ⊎ (last ≤ top) → (top * W + x ≡ last * W + x) ⊎ (top * W + x + w ≤ last * W + x)
        by (inl u) = inr (omega (arith, fits.across, add-mul top 1 W, mul-le-mul_right {m = top + 1} {n = last} W (omega arith)))
        by (inr u) = let e : top ≡ last = omega arith in inl (rw e)

    -- a dot of a row that is not done yet
    off : (k row : ℕ) → k / W ≡ row → top ≤ row → row ≤ last → turned (y + j) (y + (h - j)) k ≡ false
    off k row e u v =
        rw (e, within-high y top row u, within_low (y + (h - j)) (y + h) row (omega arith)) (and-false (within x (x + w) (k % W)))

    module _ {b : List ℕ} (eb : Flip j b) where
      -- a dot k of a row, and its mirror n
      mirror : (row row' k n : ℕ) → row * W + x ≤ k → k < row * W + x + w → top ≤ row' → row' ≤ last → row + row' + 1 ≡ y + (y + h) → y ≤ row
          → n ≡ row' * W + (k - row * W) → (d : RGBA) → blended (dot_at b n) d ≡ flip_dot k d
      mirror row row' k n u v p q s a e d =
          let i = k - row * W in
          let k-row = in_row row W k (omega arith) (omega (arith, fits.across)) in
          let n-row = at-column W i row' (omega (arith, fits.across)) in
          let old : dot_at b (row' * W + i) ≡ dot_at l (row' * W + i) =
          ap (λ (z : List ℕ). dot_at z (row' * W + i)) eb ∙ change-kept (turned (y + j) (y + (h - j))) flip_dot l (row' * W + i) (off (row' * W + i) row' n-row.0 p q) in
          let ej : y + (h - 1 - (row - y)) ≡ row' = omega arith in
          let ei : x + (k - row * W - x) ≡ k - row * W = omega arith in
          rw (e, k-row.0, k-row.1, ej, ei) (ap (λ (c : RGBA). blended c d) old)

      pub flip-next : {m : List ℕ} → m ≡ pair_on (top * W + x) (last * W + x) w b → Flip (j + 1) m
      unfolding pair_on in_area
      flip-next em =
          em
          ∙ change-by picked _ flip_dot b (λ k e. here k (place T (T + w) k) (side T L w k e) _)
          ∙ rw eb (change-more (turned (y + j) (y + (h - j))) picked (turned (y + (j + 1)) (y + (h - (j + 1)))) flip_dot l more (λ k e. apart k (side T L w k e)))
        where
          T : ℕ
          T = top * W + x

          L : ℕ
          L = last * W + x

          picked : ℕ → Bool
          picked k = within T (T + w) k || within L (L + w) k

          here : (k : ℕ) → Place T (T + w) k → ((T ≤ k) × (k < T + w)) ⊎ ((L ≤ k) × (k < L + w))
              → (d : RGBA) → blended (dot_at b (if within T (T + w) k then k + (L - T) else k - (L - T))) d ≡ flip_dot k d
          here k (inside u v) s d =
              mirror top last k _ u v (omega arith) (omega arith) (omega arith) (omega arith) (rw (within-yes T (T + w) k u v) (omega (arith, order))) d
          here k (before u) (inl s) d = absurd (omega arith)
          here k (before u) (inr s) d = absurd (omega (arith, order))
          here k (past u v) (inl s) d = absurd (omega arith)
          here k (past u v) (inr s) d =
              mirror last top k _ s.0 s.1 (omega arith) (omega arith) (omega arith) (omega arith) (rw (within-high T (T + w) k v) (omega (arith, order))) d

          more : (k : ℕ) → turned (y + (j + 1)) (y + (h - (j + 1))) k ≡ (turned (y + j) (y + (h - j)) k || picked k)
          more k =
              let et : y + (j + 1) ≡ top + 1 = omega arith in
              let el : y + (h - (j + 1)) ≡ last = omega arith in
              let en : y + (h - j) ≡ last + 1 = omega arith in
              rw
              (et, el, en, within-then y top (top + 1) (k / W) (omega arith) (omega arith), within-then last (last + 1) (y + h) (k / W) (omega arith) (omega arith), run_row W x w top k fits.some fits.across, run_row W x w last k fits.some fits.across)
              (spread (within x (x + w) (k % W)) (within y top (k / W)) _ _ _)

          apart : (k : ℕ) → ((T ≤ k) × (k < T + w)) ⊎ ((L ≤ k) × (k < L + w)) → turned (y + j) (y + (h - j)) k ≡ false
          apart k (inl s) = off k top (in_row top W k (omega arith) (omega (arith, fits.across))).0 (omega arith) (omega arith)
          apart k (inr s) = off k last (in_row last W k (omega arith) (omega (arith, fits.across))).0 (omega arith) (omega arith)

  pub flip-end : {top bottom : ℕ} {b : List ℕ} → y ≤ bottom → top + bottom ≡ y + (y + h) → b ≡ change (turned top bottom) flip_dot l → bottom ≤ top
      → b ≡ flipped_on W x y w h l
  unfolding flipped_on area_on in_area
  flip-end {top} {bottom} high middle eb t =
      eb
      ∙ change-where _ _ flip_dot l
      (λ k. ap (λ (s : Bool). within x (x + w) (k % W) && s) (run-cover y bottom top (y + h) (k / W) high t (omega (arith, high, middle))))
