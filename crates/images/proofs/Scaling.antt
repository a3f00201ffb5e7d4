-- The two loops that write an image: over the dots of a row, and over the rows. Each has a start, a next and an end. Assumes nothing.
use mathlib.Core.Path.{◌≡◌, refl, sym, ap, ◌∙◌}
use mathlib.Core.Bool.{Bool, true, false, true≢false}
use mathlib.Core.List.{List}
use Prim.Native.Nat.{ℕ, ◌+◌, ◌-◌, ◌*◌, ◌/◌, ◌%◌, ◌≤◌, ◌<◌}
use native.Mathlib.Nat.{div-add-mod', mod-lt, div-eq_of_lt-le, div-lt_iff_lt-mul, mul-le-mul_right, mul_comm, add-mul, zero-mul, add-zero}
use native.Mathlib.Omega.{arith}
use lib.ListN.{length}
use borrow.Author.Tests.{eqb-false, not-true}
use Rattle.numbers.specs.Numbers.{limit}
use Rattle.colour.specs.declared.RGBA.{RGBA}
use Rattle.colour.specs.Colour.{with_alpha}
use Rattle.dots.specs.Dots.{dot_at, set_dot, change, within}
use Rattle.dots.proofs.Laws.{run_none, run-turn, run_more, length-change, change-by, change-picked, within-yes, within-true}
use Rattle.dots.proofs.Blocks.{in_block, in_row}
use Rattle.images.specs.declared.scale.Source.{Source}
use Rattle.images.specs.declared.formats.Format.TheVariants.{Bits}
use Rattle.bits.specs.Bits.{row_bytes, Shown, bits_on, alpha_landed}
use Rattle.images.specs.Formats.{alpha_of, bytes_of}
use Rattle.images.specs.Stretching.{pixel_of}
use Rattle.bits.specs.Bits.{landed}
use Rattle.images.specs.Steps.{Sound, Above, repeated, source_pixel, picture_row_on, picture_on}
use Rattle.images.proofs.Sides.{sides}
use Rattle.images.proofs.Places.{line-fits, row-in-data}

-- ---- what a sound source gives to read a dot

pub source-dot : (s : Source) {n j x : ℕ} → Sound s n → j < s.h * s.fy → x < s.w
    → (s.w ≤ limit) × (s.h ≤ limit) × (x < s.w) × (j / s.fy < s.h) × (bytes_of s.format s.w s.h ≤ n)
source-dot s {n} {j} {x} o hj hx =
    ((sides s o).0, (sides s o).1, hx, (div-lt_iff_lt-mul o.fy).1 hj, o.bytes)

-- ---- a row: x source dots are written, up to dot i

module _ (s : Source) (bytes : List ℕ) (blend : Bool) (at j : ℕ) (l : List ℕ) where
  abbrev row_dot : ℕ → RGBA → RGBA
  row_dot i d = landed blend (source_pixel s bytes (i - at) j) d

  pub record Across (x i : ℕ) (out : List ℕ) : Type 0 where
    pub place : i ≡ at + x * s.fx
    pub upto : x ≤ s.w
    pub same : length out ≡ length l
    pub sofar : out ≡ change (within at i) row_dot l

  pub across-start : Across 0 at l
  across-start = record { place = rw (zero-mul, add-zero); upto = omega arith; same = refl; sofar = run_none at row_dot l }

  -- the block of source dot x lies in the row, and in the output
  block-fits : (x : ℕ) → x < s.w → x * s.fx + s.fx ≤ s.w * s.fx
  block-fits x h = omega (arith, mul-le-mul_right {m = x + 1} {n = s.w} s.fx (omega arith), add-mul x 1 s.fx)

  pub across-room : {x i : ℕ} {out : List ℕ} → Across x i out → x < s.w → (at + s.w * s.fx) * 4 ≤ length l → (i + s.fx) * 4 ≤ length out
  across-room {x} a h r = omega (arith, a.place, a.same, block-fits x h)

  pub across-next : {x i alpha : ℕ} {pixel : RGBA} {out out' : List ℕ} → Across x i out → x < s.w
      → alpha ≡ alpha_of s.format bytes s.w s.h x (j / s.fy) → pixel ≡ with_alpha s.color alpha
      → out' ≡ change (within i (i + s.fx)) (λ _ d. landed blend pixel d) out → Across (x + 1) (i + s.fx) out'
  unfolding source_pixel pixel_of
  across-next {x} {i} {alpha} {pixel} {out} a h ea ep eo =
      record {
        place = omega (arith, a.place, add-mul x 1 s.fx);
        upto = omega arith;
        same = ap length eo ∙ length-change _ _ out ∙ a.same;
        sofar =
            run_more at i (i + s.fx) _ row_dot l (omega (arith, a.place)) (omega arith)
            (λ k u v d.
            let q : (k - at) / s.fx ≡ x = in_block at x s.fx k (omega (arith, a.place)) (omega (arith, a.place)) in
            rw (ep, ea, q)) a.sofar eo;
      }

  pub across-end : {x i : ℕ} {out : List ℕ} → Across x i out → s.w ≤ x → out ≡ picture_row_on at (s.w * s.fx) blend (source_pixel s bytes) j l
  unfolding picture_row_on
  across-end {x} {i} a h =
      let e : x ≡ s.w = omega (arith, a.upto) in
      let p : i ≡ at + s.w * s.fx = a.place ∙ rw e in
      a.sofar ∙ rw p

-- one dot is a block of one
pub dot-block : (fx i : ℕ) (blend : Bool) (pixel : RGBA) (out : List ℕ) → fx ≡ 1 → i * 4 + 4 ≤ length out
    → {m : List ℕ} → m ≡ set_dot out i (landed blend pixel (dot_at out i)) → m ≡ change (within i (i + fx)) (λ _ d. landed blend pixel d) out
dot-block fx i blend pixel out e r em = rw e (run-turn i i _ out (omega arith) r (run_none i _ out) refl em)

-- ---- a picture of W by H dots: j rows are written, up to dot `at`

module _ (W H : ℕ) (blend : Bool) (pixel : ℕ → ℕ → RGBA) (l : List ℕ) where
  abbrev picture_dot : ℕ → RGBA → RGBA
  picture_dot i d = landed blend (pixel (i % W) (i / W)) d

  pub record Down (j at : ℕ) (out : List ℕ) : Type 0 where
    pub place : at ≡ j * W
    pub upto : j ≤ H
    pub same : length out ≡ length l
    pub sofar : out ≡ change (within 0 at) picture_dot l

  pub down-start : Down 0 0 l
  down-start = record { place = rw zero-mul; upto = omega arith; same = refl; sofar = run_none 0 picture_dot l }

  -- row j lies in the output
  pub down-room : {j at : ℕ} {out : List ℕ} → Down j at out → j < H → W * H * 4 ≤ length l → (at + W) * 4 ≤ length out
  down-room {j} a h r = omega (arith, a.place, a.same, line-fits W H j h)

  pub down-next : {j at : ℕ} {out out' : List ℕ} → Down j at out → j < H → out' ≡ picture_row_on at W blend pixel j out → Down (j + 1) (at + W) out'
  unfolding picture_row_on
  down-next {j} {at} {out} {out'} a h eo =
      record {
        place = omega (arith, a.place, add-mul j 1 W);
        upto = omega arith;
        same = ap length eo ∙ length-change _ _ out ∙ a.same;
        sofar =
            run_more 0 at (at + W) _ picture_dot l (omega arith) (omega arith)
            (λ k u v d.
            let r = in_row j W k (omega (arith, a.place)) (omega (arith, a.place)) in
            rw (r.0, r.1, a.place)) a.sofar eo;
      }

  pub down-at : {j at k : ℕ} {out : List ℕ} → at ≡ k → Down j at out → Down j k out
  down-at e a = rw e at a

  pub down-end : {j at : ℕ} {out : List ℕ} → Down j at out → H ≤ j → out ≡ picture_on W H blend pixel l
  unfolding picture_on
  down-end {j} {at} a h =
      let e : j ≡ H = omega (arith, a.upto) in
      let p : at ≡ W * H = a.place ∙ rw e (mul_comm H W) in
      a.sofar ∙ rw p

-- ---- a row that is the row above it

pub is-repeated : (j fy : ℕ) (blend : Bool) → repeated j fy blend ≡ true → (blend ≡ false) × (j % fy ≡ 0 → ⊥)
unfolding repeated
is-repeated j fy true e = absurd (true≢false (sym e))
is-repeated j fy false e = (refl, eqb-false (j % fy) 0 (not-true _ e))

-- such a row and the one above it show one row of source dots
one-source : (j fy : ℕ) → 0 < fy → (j % fy ≡ 0 → ⊥) → (0 < j) × ((j - 1) / fy ≡ j / fy)
one-source j fy p n =
    let d : j / fy * fy + j % fy ≡ j = div-add-mod' j fy in
    let m : j % fy < fy = mod-lt j p in
    (omega arith, div-eq_of_lt-le fy (omega arith) (omega (arith, add-mul (j / fy) 1 fy)))

row_before : (j w : ℕ) → 0 < j → j * w ≡ (j - 1) * w + w
row_before j w p =
    let o : j - 1 + 1 ≡ j = omega arith in
    omega (arith, add-mul (j - 1) 1 w, ap (λ (n : ℕ). n * w) o)

module _ (s : Source) (bytes : List ℕ) (l : List ℕ) where
  abbrev W : ℕ
  W = s.w * s.fx

  abbrev pixel : ℕ → ℕ → RGBA
  pixel = source_pixel s bytes

  same-pixel : (j i : ℕ) → (j - 1) / s.fy ≡ j / s.fy → pixel i (j - 1) ≡ pixel i j
  unfolding source_pixel pixel_of
  same-pixel j i e = rw e

  -- what the row above holds
  above : {j at : ℕ} {out : List ℕ} → Down W (s.h * s.fy) false pixel l j at out → 0 < j → at * 4 ≤ length l → (i : ℕ) → at ≤ i → i < at + W → dot_at out (i - W) ≡ pixel (i - at) (j - 1)
  unfolding landed
  above {j} {at} a p r i u v =
      let e : at ≡ (j - 1) * W + W = a.place ∙ row_before j W p in
      let q = in_row (j - 1) W (i - W) (omega arith) (omega arith) in
      let k : i - W - (j - 1) * W ≡ i - at = omega arith in
      rw a.sofar (change-picked _ _ l (i - W) (within-yes 0 at (i - W) (omega arith) (omega arith)) (omega arith) ∙ rw (q.0, q.1, k))

  pub down-above : {j at : ℕ} {blend : Bool} {out : List ℕ} → Down W (s.h * s.fy) blend pixel l j at out → 0 < s.fy → (at + W) * 4 ≤ length out → Above s bytes blend at j out
  down-above {j} {at} {blend} {out} a p r =
      record {
        room = λ e. let o = one-source j s.fy p (is-repeated j s.fy blend e).1 in omega (arith, a.place, row_before j W o.0);
        dots = λ e i u v.
            let t = is-repeated j s.fy blend e in
            let o = one-source j s.fy p t.1 in
            above (rw t.0 at a) o.0 (omega (arith, a.same)) i u v ∙ same-pixel j (i - at) o.1;
      }

-- the row above moved on is row j
pub repeat-is-row : (s : Source) (bytes : List ℕ) (blend : Bool) (at j : ℕ) (out : List ℕ) → Above s bytes blend at j out → repeated j s.fy blend ≡ true → {m : List ℕ}
    → m ≡ change (within (at - s.w * s.fx + s.w * s.fx) (at - s.w * s.fx + s.w * s.fx + s.w * s.fx)) (λ i _. dot_at out (i - s.w * s.fx)) out
    → m ≡ picture_row_on at (s.w * s.fx) blend (source_pixel s bytes) j out
unfolding picture_row_on landed
repeat-is-row s bytes blend at j out a e em =
    let o : at - s.w * s.fx + s.w * s.fx ≡ at = omega (arith, a.room e) in
    em ∙ rw (o, (is-repeated j s.fy blend e).0) (change-by _ _ _ out (λ i w. let b = within-true at (at + s.w * s.fx) i w in a.dots e i b.0 b.1))

-- ---- a row of bits

pub bits-in-data : (s : Source) {n j row : ℕ} → Sound s n → j < s.h * s.fy → s.format ≡ Bits → row ≡ row_bytes s.w → j / s.fy * row + row_bytes s.w ≤ n
bits-in-data s o hj e er = rw er (row-in-data s.w s.h _ e ((div-lt_iff_lt-mul o.fy).1 hj) o.bytes)

pub bits-shown : (s : Source) {n j row : ℕ} → Sound s n → j < s.h * s.fy → s.format ≡ Bits → row ≡ row_bytes s.w → Shown (j / s.fy * row) s.fx (s.w * s.fx) n
bits-shown s o hj e er i h = omega (arith, bits-in-data s o hj e er, (div-lt_iff_lt-mul o.fx).1 h)

pub bits-is-row : (s : Source) (bytes : List ℕ) (blend : Bool) (at j : ℕ) (out : List ℕ) → s.format ≡ Bits → {row : ℕ} → row ≡ row_bytes s.w
    → {m : List ℕ} → m ≡ bits_on (alpha_landed blend s.color) bytes (j / s.fy * row) s.fx at (s.w * s.fx) out → m ≡ picture_row_on at (s.w * s.fx) blend (source_pixel s bytes) j out
unfolding picture_row_on source_pixel pixel_of alpha_of bits_on
bits-is-row s bytes blend at j out e er em = em ∙ rw (er, e)
