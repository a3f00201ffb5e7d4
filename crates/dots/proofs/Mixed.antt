-- Bytes mixed by factors and terms are bytes of dots with a colour drawn on them. Assumes nothing.
use mathlib.Core.Path.{◌≡◌, refl, sym, ap, ◌∙◌}
use mathlib.Core.Bool.{Bool, true, false}
use mathlib.Core.Logic.{inr}
use mathlib.Core.List.{List}
use Prim.Native.Nat.{ℕ, ◌+◌, ◌-◌, ◌*◌, ◌/◌, ◌%◌, ◌≤◌, ◌<◌}
use native.Mathlib.Omega.{arith}
use native.Mathlib.Nat.{mul-le-mul, mul-le-mul_right, add-zero}
use lib.Dec.{eqb}
use borrow.Author.Tests.{eqb-true, eqb-false, eq-eqb, ne_eqb}
use lib.ListN.{length, get_or, set, length-set}
use Rattle.colour.specs.declared.RGBA.{RGBA}
use Rattle.std.specs.Prelude.{if◌then◌else◌}
use Rattle.colour.specs.Channel.{blend_byte, multiply_byte}
use Rattle.colour.specs.Colour.{rgba, blended, multiplied}
use Rattle.colour.proofs.Laws.{rgba-eq, by-256, blend-byte-full, blended-full, blended-some, multiplied-some, multiply-byte-full}
use Rattle.dots.specs.Dots.{dot_at, chan, change, within, drawn}
use Rattle.dots.specs.Tables.{lanes, factors, terms, Whole}
use Rattle.dots.proofs.Laws.{get_or-tab, each-byte, byte_of}
use Rattle.dots.proofs.Bytes.{Over, over_none, over-step, over-change, fill_step}

-- what the loop works out of a factor, a term and an old byte
abbrev pub mixed : ℕ → ℕ → ℕ → ℕ
mixed m k s = (s * m + k + (s * m + k) / 256) / 256

pub record Bytes (c : RGBA) : Type 0 where
  pub r : c.r ≤ 255
  pub g : c.g ≤ 255
  pub b : c.b ≤ 255
  pub a : c.a ≤ 255

-- each byte of a colour is a byte
pub chan-byte : (c : RGBA) → Bytes c → (k : ℕ) → k < 4 → chan c k ≤ 255
unfolding chan
chan-byte c p = each-byte (λ k. chan c k ≤ 255) p.r p.g p.b p.a

pub bytes-of : (c : RGBA) → ((k : ℕ) → k < 4 → chan c k ≤ 255) → Bytes c
unfolding chan
bytes-of c h = record { r = h 0 (omega arith); g = h 1 (omega arith); b = h 2 (omega arith); a = h 3 (omega arith) }

-- four more places of an array that is filled with four numbers over and over
pub fill-four : (x : RGBA) (p : List ℕ) (j : ℕ) → j % 4 ≡ 0 → j + 4 ≤ length p → ((i : ℕ) → i < j → get_or p i 0 ≡ chan x (i % 4))
    → (i : ℕ) → i < j + 4 → get_or (set (set (set (set p j x.r) (j + 1) x.g) (j + 2) x.b) (j + 3) x.a) i 0 ≡ chan x (i % 4)
unfolding chan
fill-four x p j even h before i u =
    let e0 : j % 4 ≡ 0 = even in
    let e1 : (j + 1) % 4 ≡ 1 = omega arith in
    let e2 : (j + 2) % 4 ≡ 2 = omega arith in
    let e3 : (j + 3) % 4 ≡ 3 = omega arith in
    let F : ℕ → ℕ = λ k. chan x (k % 4) in
    let a = fill_step p j x.r F (omega arith) before (rw e0) in
    let b = fill_step (set p j x.r) (j + 1) x.g F (simp length-set (omega arith)) a (rw e1) in
    let c = fill_step (set (set p j x.r) (j + 1) x.g) (j + 2) x.b F (simp length-set (omega arith)) (λ k v. b k (omega arith)) (rw e2) in
    fill_step (set (set (set p j x.r) (j + 1) x.g) (j + 2) x.b) (j + 3) x.a F (simp length-set (omega arith)) (λ k v. c k (omega arith)) (rw e3) i (omega arith)

pub lane-at : (x : RGBA) {l : List ℕ} → l ≡ lanes x → (j : ℕ) → j < 64 → get_or l j 0 ≡ chan x (j % 4)
unfolding lanes
lane-at x e j h = rw e (get_or-tab 64 _ j 0 h)

-- ---- factors and terms by mode and alpha

module _ {t : Bool} (c : RGBA) where
  pub factors-multiplied : t ≡ true → rgba c.r c.g c.b 255 ≡ factors t c
  unfolding factors
  factors-multiplied e = rw e

  pub factors-full : t ≡ false → c.a ≡ 255 → rgba 0 0 0 0 ≡ factors t c
  unfolding factors
  factors-full e f = rw (e, f)

  pub factors-some : t ≡ false → (c.a ≡ 255 → ⊥) → rgba (255 - c.a) (255 - c.a) (255 - c.a) 255 ≡ factors t c
  unfolding factors
  factors-some e f = rw (e, ne_eqb c.a 255 f)

  pub terms-multiplied : t ≡ true → rgba 128 128 128 128 ≡ terms t c
  unfolding terms
  terms-multiplied e = rw e

  pub terms-full : t ≡ false → c.a ≡ 255 → rgba (c.r * c.a + 128) (c.g * c.a + 128) (c.b * c.a + 128) (c.a * c.a + 128) ≡ terms t c
  unfolding terms
  terms-full e f = rw (e, eq-eqb c.a 255 f)

  pub terms-some : t ≡ false → (c.a ≡ 255 → ⊥) → rgba (c.r * c.a + 128) (c.g * c.a + 128) (c.b * c.a + 128) 128 ≡ terms t c
  unfolding terms
  terms-some e f = rw (e, ne_eqb c.a 255 f)

-- no sum of the loop outgrows 16 bits
pub lanes_fit : (t : Bool) (c : RGBA) → Bytes c → (k : ℕ) → k < 4 → 255 * chan (factors t c) k + chan (terms t c) k ≤ 65153
unfolding chan factors terms
lanes_fit true c p =
    each-byte (λ k. 255 * chan (factors true c) k + chan (terms true c) k ≤ 65153) (omega (arith, p.r)) (omega (arith, p.g)) (omega (arith, p.b)) (omega arith)
lanes_fit false c p =
    each-byte (λ k. 255 * chan (factors false c) k + chan (terms false c) k ≤ 65153) (one p.r) (one p.g) (one p.b) (last (eqb c.a 255))
  where
    one : {x : ℕ} → x ≤ 255 → 255 * (255 - c.a) + (x * c.a + 128) ≤ 65153
    one {x} h = omega (arith, mul-le-mul_right c.a h, p.a)

    last : (e : Bool) → 255 * (if e then 0 else 255) + (if e then c.a * c.a + 128 else 128) ≤ 65153
    last true = omega (arith, mul-le-mul p.a p.a)
    last false = omega arith

mixed-blend : (c a s : ℕ) → c ≤ 255 → a ≤ 255 → s ≤ 255 → mixed (255 - a) (c * a + 128) s ≡ blend_byte s c a
unfolding blend_byte
mixed-blend c a s hc ha hs =
    let low : c * a ≤ 255 * a = mul-le-mul_right a hc in
    let high : s * (255 - a) ≤ 255 * (255 - a) = mul-le-mul_right (255 - a) hs in
    let e : s * (255 - a) + (c * a + 128) ≡ c * a + s * (255 - a) + 128 = omega arith in
    ap (λ (t : ℕ). (t + t / 256) / 256) e ∙ by-256 (c * a + s * (255 - a)) (omega arith)

mixed-multiply : (c s : ℕ) → c ≤ 255 → s ≤ 255 → mixed c 128 s ≡ multiply_byte s c 255
mixed-multiply c s hc hs = by-256 (s * c) (mul-le-mul hs hc) ∙ sym (multiply-byte-full s c hs hc)

-- a dot multiplied at full alpha, channel by channel
mixed-whole : (c s : RGBA) → Bytes c → Bytes s → c.a ≡ 255 → rgba (mixed c.r 128 s.r) (mixed c.g 128 s.g) (mixed c.b 128 s.b) s.a ≡ multiplied c s
mixed-whole c s p q f =
    multiplied-some c s (λ e. omega arith) (channel c.r s.r p.r q.r) (channel c.g s.g p.g q.g) (channel c.b s.b p.b q.b)
  where
    channel : (x y : ℕ) → x ≤ 255 → y ≤ 255 → mixed x 128 y ≡ multiply_byte y x c.a
    channel x y hx hy = mixed-multiply x y hx hy ∙ ap (multiply_byte y x) (sym f)

mixed-kept : (s : ℕ) → s ≤ 255 → mixed 255 128 s ≡ s
mixed-kept s h = omega arith

-- the dot that the loop makes of s
abbrev mixed_dot : Bool → RGBA → RGBA → RGBA
mixed_dot t c s =
    let m = factors t c in
    let k = terms t c in
    rgba (mixed m.r k.r s.r) (mixed m.g k.g s.g) (mixed m.b k.b s.b) (mixed m.a k.a s.a)

-- it is s with c drawn on it
pub mixed-drawn : (t : Bool) (c s : RGBA) → Bytes c → Bytes s → Whole t c → mixed_dot t c s ≡ drawn t c s
unfolding factors terms drawn
mixed-drawn true c s p q w = rw (mixed-kept s.a q.a) (mixed-whole c s p q (w.full refl))
mixed-drawn false c s p q w = go (eqb c.a 255) refl
  where
    new : ℕ → ℕ → ℕ
    new x y = mixed (255 - c.a) (x * c.a + 128) y

    channel : (x y : ℕ) → x ≤ 255 → y ≤ 255 → new x y ≡ blend_byte y x c.a
    channel x y hx hy = mixed-blend x c.a y hx p.a hy

    go : (e : Bool) → eqb c.a 255 ≡ e
        → rgba (new c.r s.r) (new c.g s.g) (new c.b s.b) (mixed (if e then 0 else 255) (if e then c.a * c.a + 128 else 128) s.a) ≡ blended c s
    go true e =
        let f : c.a ≡ 255 = eqb-true _ _ e in
        let full : (x y : ℕ) → x ≤ 255 → y ≤ 255 → new x y ≡ x = λ x y hx hy. channel x y hx hy ∙ ap (blend_byte y x) f ∙ blend-byte-full y x in
        rgba-eq (full _ _ p.r q.r) (full _ _ p.g q.g) (full _ _ p.b q.b) (rw f (omega arith)) ∙ blended-full c s f
    go false e =
        rw (mixed-kept s.a q.a)
        (blended-some c s (λ z. omega (arith, w.some)) (eqb-false _ _ e) (channel _ _ p.r q.r) (channel _ _ p.g q.g) (channel _ _ p.b q.b))

-- byte by byte
pub mixed-dot : (t : Bool) (c s : RGBA) → Bytes c → Bytes s → Whole t c
    → (k : ℕ) → k < 4 → mixed (chan (factors t c) k) (chan (terms t c) k) (chan s k) ≡ chan (drawn t c s) k
unfolding chan
mixed-dot t c s p q w =
    each-byte (λ k. mixed (chan (factors t c) k) (chan (terms t c) k) (chan s k) ≡ chan (drawn t c s) k) (byte 0) (byte 1) (byte 2) (byte 3)
  where
    byte : (k : ℕ) → chan (mixed_dot t c s) k ≡ chan (drawn t c s) k
    byte k = ap (λ (x : RGBA). chan x k) (mixed-drawn t c s p q w)

chan-four : (x k : ℕ) → k < 4 → chan (rgba x x x x) k ≡ x
unfolding chan
chan-four x = each-byte (λ k. chan (rgba x x x x) k ≡ x) refl refl refl refl

-- a byte of a dot hangs on the byte before it alone, so any dot will do that has it
pub mixed-byte : (t : Bool) (c : RGBA) (x : ℕ) → Bytes c → x ≤ 255 → Whole t c
    → (k : ℕ) → k < 4 → mixed (chan (factors t c) k) (chan (terms t c) k) x ≡ chan (drawn t c (rgba x x x x)) k
mixed-byte t c x p h w k l =
    sym (ap (mixed (chan (factors t c) k) (chan (terms t c) k)) (chan-four x k l))
    ∙ mixed-dot t c (rgba x x x x) p (record { r = h; g = h; b = h; a = h }) w k l

-- so it is what its factor and its term make of it
pub byte-mixed : (t : Bool) (c : RGBA) (x : ℕ) → Bytes c → x ≤ 255 → Whole t c
    → (j : ℕ) → j < 64 → chan (drawn t c (rgba x x x x)) (j % 4) ≡ mixed (get_or (lanes (factors t c)) j 0) (get_or (lanes (terms t c)) j 0) x
byte-mixed t c x p h w j u =
    sym (rw (lane-at (factors t c) refl j u, lane-at (terms t c) refl j u) (mixed-byte t c x p h w (j % 4) (omega arith)))

-- ---- the loop over the bytes of at most 16 dots, from byte `from`

abbrev pub Mixes : List ℕ → List ℕ → ℕ → ℕ → List ℕ → List ℕ → Type 0
Mixes m k from j l b = Over from (from + j) (λ i. mixed (get_or m (i - from) 0) (get_or k (i - from) 0) (get_or l i 0)) l b

pub mix-start : (m k : List ℕ) (from : ℕ) (l : List ℕ) → Mixes m k from 0 l l
mix-start m k from l = rw add-zero (over_none from _ l)

pub mix-turn : (m k : List ℕ) (from j : ℕ) (l b : List ℕ) (v : ℕ) → from + j < length l → Mixes m k from j l b
    → v ≡ mixed (get_or m j 0) (get_or k j 0) (get_or b (from + j) 0) → Mixes m k from (j + 1) l (set b (from + j) v)
mix-turn m k from j l b v h o e =
    let up : from + (j + 1) ≡ from + j + 1 = omega arith in
    let back : j ≡ from + j - from = omega arith in
    let old : get_or b (from + j) 0 ≡ get_or l (from + j) 0 = o.kept (from + j) (inr (omega arith)) in
    rw up (over-step from (from + j) _ l b v (omega arith) h o (e ∙ rw old (ap (λ (n : ℕ). mixed (get_or m n 0) (get_or k n 0) (get_or l (from + j) 0)) back)))

pub mix-end : (m k : List ℕ) (at count : ℕ) (t : Bool) (c : RGBA) (l b : List ℕ) → Bytes c → ((i : ℕ) → get_or l i 0 ≤ 255) → Whole t c
    → m ≡ lanes (factors t c) → k ≡ lanes (terms t c) → count ≤ 16 → (at + count) * 4 ≤ length l
    → Mixes m k (at * 4) (count * 4) l b → b ≡ change (within at (at + count)) (λ _ s. drawn t c s) l
mix-end m k at count t c l b p q whole em ek few h o =
    let e : at * 4 + count * 4 ≡ (at + count) * 4 = omega arith in
    over-change at (at + count) _ l b _ h (rw e at o) one
  where
    one : (i : ℕ) → at * 4 ≤ i → i < (at + count) * 4
        → mixed (get_or m (i - at * 4) 0) (get_or k (i - at * 4) 0) (get_or l i 0) ≡ chan (drawn t c (dot_at l (i / 4))) (i % 4)
    one i u v =
        let s = dot_at l (i / 4) in
        let z : (i - at * 4) % 4 ≡ i % 4 = omega arith in
        rw (lane-at (factors t c) em (i - at * 4) (omega arith), lane-at (terms t c) ek (i - at * 4) (omega arith), z, byte_of l (i / 4) i (i % 4) (omega arith) (omega arith))
        (mixed-dot t c s p (record { r = q _; g = q _; b = q _; a = q _ }) whole (i % 4) (omega arith))
