-- From tests to a refusal's number, and from number 0 to what was tested. Assumes nothing.
use mathlib.Core.Path.{◌≡◌, refl, sym, ◌∙◌}
use Rattle.std.proofs.Common.{Result}
use Rattle.std.specs.Result.{IsErrAnd}
use mathlib.Core.Bool.{Bool, true, false, not, ◌&&◌, ◌||◌}
use Prim.Native.Nat.{ℕ, ◌+◌, ◌*◌, ◌/◌, ◌≤◌, ◌<◌, max}
use native.Mathlib.Omega.{arith}
use lib.Dec.{ltb, leb, eqb}
use borrow.Author.Tests.{ltb-false, leb-false, eqb-true, eqb-false, lt-ltb, lt-leb, eq-eqb, ne_eqb, le-ltb}
use Rattle.numbers.specs.declared.refusal.Refusal.{Refusal}
use Rattle.numbers.specs.Numbers.{limit, done, bad_canvas, number_of, number}
use Rattle.numbers.proofs.Refusals.{refused, handed}
use Rattle.std.specs.Prelude.{if◌then◌else◌}
use Rattle.colour.proofs.Tests.{neither}
use Rattle.refusals.specs.Refusals.{first, canvas_refusal, tall_refusal, wide_refusal, room_refusal, rgb_room_refusal, side_refusal, off_refusal, across_refusal, empty_refusal, rows_of, grow_refusal, margin_refusal, width_refusal, widen_refusal, out_refusal, rgb_refusal}

-- ---- one number after another

pub first_some : (a b : ℕ) → (a ≡ done → ⊥) → a ≡ first a b
unfolding first
first_some a b e = rw (ne_eqb a done e)

pub first-none : (a b : ℕ) → a ≡ done → b ≡ first a b
unfolding first
first-none a b e = rw (eq-eqb a done e)

pub first-last : (a : ℕ) → a ≡ first a done
unfolding first
first-last a = go (eqb a done) refl
  where
    go : (t : Bool) → eqb a done ≡ t → a ≡ (if t then done else a)
    go true e = eqb-true a done e
    go false e = refl

pub first_done : (a b : ℕ) → first a b ≡ done → (a ≡ done) × (b ≡ done)
unfolding first
first_done a b = go (eqb a done) refl
  where
    go : (t : Bool) → eqb a done ≡ t → (if t then b else a) ≡ done → (a ≡ done) × (b ≡ done)
    go true e r = (eqb-true a done e, r)
    go false e r = absurd (eqb-false a done e r)

-- an order, however its numbers are taken together
pub first_then : (a b c : ℕ) → first (first a b) c ≡ first a (first b c)
unfolding first
first_then a b c = go (eqb a done) refl
  where
    go : (t : Bool) → eqb a done ≡ t → first (if t then b else a) c ≡ (if t then first b c else a)
    go true e = refl
    go false e = sym (first_some a c (eqb-false a done e))

-- what comes first, and passes
pub passing : {a b n : ℕ} → done ≡ a → n ≡ b → n ≡ first a b
passing e h = h ∙ first-none _ _ (sym e)

-- what comes first, refuses and is handed on by a `?`
pub stopping : {A : Type 0} (r : Result A Refusal) (why : Refusal) {a : ℕ} (b : ℕ) → IsErrAnd r (λ y. y ≡ why) → number_of why ≡ a → number r ≡ first a b
stopping r why b h e = handed r why h ∙ (e ∙ first_some _ b (λ z. omega (arith, refused why, e, z)))

-- a test that gave 0 failed, and what comes after it gave 0
pub passed_on : (t : Bool) {k r : ℕ} → 0 < k → (if t then k else r) ≡ done → (t ≡ false) × (r ≡ done)
passed_on true h e = absurd (omega arith)
passed_on false h e = (refl, e)

pub passed : (t : Bool) {k : ℕ} → 0 < k → (if t then k else done) ≡ done → t ≡ false
passed t h e = (passed_on t h e).0

-- ---- 8, 2, 1

pub tall-done : (h : ℕ) → tall_refusal h ≡ done → h ≤ limit
unfolding tall_refusal
tall-done h e = ltb-false limit h (passed (ltb limit h) (omega arith) e)

pub wide-done : (w : ℕ) → wide_refusal w ≡ done → w ≤ limit
unfolding wide_refusal
wide-done w e = ltb-false limit w (passed (ltb limit w) (omega arith) e)

pub room-done : (w h n : ℕ) → room_refusal w h n ≡ done → 4 * (w * h) ≤ n
unfolding room_refusal
room-done w h n e = ltb-false n (4 * (w * h)) (passed (ltb n (4 * (w * h))) (omega arith) e)

pub rgb-room-done : (w h n : ℕ) → rgb_room_refusal w h n ≡ done → 3 * (w * h) ≤ n
unfolding rgb_room_refusal
rgb-room-done w h n e = ltb-false n (3 * (w * h)) (passed (ltb n (3 * (w * h))) (omega arith) e)

-- ---- 2, 5 and 10 of what is drawn

pub side-done : (w h : ℕ) → side_refusal w h ≡ done → (w ≤ limit) × (h ≤ limit)
unfolding side_refusal
side-done w h e = let a = neither _ _ (passed (ltb limit w || ltb limit h) (omega arith) e) in (ltb-false _ _ a.0, ltb-false _ _ a.1)

pub off-done : (W H : ℕ) (grow : Bool) (x y : ℕ) → off_refusal W H grow x y ≡ done → x < W
unfolding off_refusal
off-done W H grow x y e = leb-false _ _ (neither _ _ (passed (leb W x || (not grow && leb H y)) (omega arith) e)).0

pub across-done : (W x w : ℕ) → across_refusal W x w ≡ done → x + w ≤ W
unfolding across_refusal
across-done W x w e = ltb-false _ _ (passed (ltb W (x + w)) (omega arith) e)

pub empty-done : (w h : ℕ) → empty_refusal w h ≡ done → (0 < w) × (0 < h)
unfolding empty_refusal
empty-done w h e =
    let a = neither _ _ (passed (eqb w 0 || eqb h 0) (omega arith) e) in
    let f = eqb-false w 0 a.0 in
    let g = eqb-false h 0 a.1 in
    (omega (arith, f), omega (arith, g))

-- ---- 9

-- a width has its rows
pub rows-some : (W H : ℕ) → 0 < W → rows_of W H ≡ H
unfolding rows_of
rows-some W H h = rw (ne_eqb W 0 (λ e. omega arith))

-- the height without a width
pub flat-test : (w h : ℕ) → ltb (rows_of w h) h ≡ (eqb w 0 && ltb 0 h)
unfolding rows_of
flat-test w h = go (eqb w 0)
  where
    go : (t : Bool) → ltb (if t then 0 else h) h ≡ (t && ltb 0 h)
    go true = refl
    go false = le-ltb h h (omega arith)

-- the last tests, by the rows that the code works out
module _ (w h n : ℕ) (a : w ≤ limit) (b : h ≤ limit) {r : ℕ} (e : r ≡ rows_of w h) where
  pub canvas-refusal-flat : r < h → bad_canvas ≡ canvas_refusal w h n
  unfolding canvas_refusal
  canvas-refusal-flat l = rw (le-ltb _ _ a, le-ltb _ _ b, ← flat-test w h, ← e, lt-ltb _ _ l)

  pub canvas-refusal-short : h ≤ r → n / 4 < w * h → bad_canvas ≡ canvas_refusal w h n
  unfolding canvas_refusal
  canvas-refusal-short l s =
      rw (le-ltb _ _ a, le-ltb _ _ b, ← flat-test w h, ← e, le-ltb _ _ l, lt-ltb n (4 * (w * h)) (omega arith))

  pub canvas-refusal-none : h ≤ r → w * h ≤ n / 4 → done ≡ canvas_refusal w h n
  unfolding canvas_refusal
  canvas-refusal-none l s =
      rw (le-ltb _ _ a, le-ltb _ _ b, ← flat-test w h, ← e, le-ltb _ _ l, le-ltb n (4 * (w * h)) (omega arith))

pub record Sound (W H n : ℕ) : Type 0 where
  pub width : W ≤ limit
  pub height : H ≤ limit
  pub flat : W ≡ 0 → H ≡ 0
  pub room : 4 * (W * H) ≤ n

pub sound : (W H n : ℕ) → canvas_refusal W H n ≡ done → Sound W H n
unfolding canvas_refusal
sound W H n e =
    let a = neither (ltb limit W || ltb limit H || (eqb W 0 && ltb 0 H)) (ltb n (4 * (W * H))) (passed _ (omega arith) e) in
    let b = neither (ltb limit W || ltb limit H) (eqb W 0 && ltb 0 H) a.0 in
    let c = neither (ltb limit W) (ltb limit H) b.0 in
    record { width = ltb-false _ _ c.0; height = ltb-false _ _ c.1; flat = λ z. flat z b.1; room = ltb-false _ _ a.1 }
  where
    flat : W ≡ 0 → (eqb W 0 && ltb 0 H) ≡ false → H ≡ 0
    flat z f = omega (arith, ltb-false 0 H (rw (eq-eqb W 0 z) at f))

-- ---- a sound canvas whose buffer has room for w by h dots

pub record Fits (W H w h n : ℕ) : Type 0 where
  pub sound : Sound W H n
  pub wide : w ≤ limit
  pub tall : h ≤ limit
  pub room : 4 * (w * h) ≤ n

module _ (W H : ℕ) where
  pub grow-done : (height n : ℕ) → grow_refusal W H height n ≡ done → Fits W H W (max H height) n
  unfolding grow_refusal
  grow-done height n e =
      let a = first_done _ _ e in
      let b = first_done _ _ a.0 in
      let s = sound W H n b.0 in
      record { sound = s; wide = s.width; tall = omega (arith, tall-done height b.1, s.height); room = room-done _ _ n a.1 }

  pub margin-done : (rows n : ℕ) → margin_refusal W H rows n ≡ done → Fits W H W (H + rows) n
  unfolding margin_refusal
  margin-done rows n e =
      let a = first_done _ _ e in
      let b = first_done _ _ a.0 in
      let s = sound W H n b.0 in
      record { sound = s; wide = s.width; tall = tall-done _ b.1; room = room-done _ _ n a.1 }

  pub widen-done : (new n : ℕ) → widen_refusal W H new n ≡ done → W < new → Fits W H new H n
  unfolding widen_refusal width_refusal
  widen-done new n e h =
      let a = first_done _ _ e in
      let b = first_done _ _ a.0 in
      let s = sound W H n b.0 in
      record { sound = s; wide = wide-done new b.1; tall = s.height; room = room-done new _ n (rw (lt-leb new W h) at a.1) }

  pub out-done : (n room : ℕ) → out_refusal W H n room ≡ done → Sound W H n × (4 * (W * H) ≤ room)
  unfolding out_refusal
  out-done n room e = let a = first_done _ _ e in (sound W H n a.0, room-done _ _ room a.1)

  pub rgb-done : (n room : ℕ) → rgb_refusal W H n room ≡ done → Sound W H n × (3 * (W * H) ≤ room)
  unfolding rgb_refusal
  rgb-done n room e = let a = first_done _ _ e in (sound W H n a.0, rgb-room-done _ _ room a.1)
