-- Bytes drawn one by one, each with its own ink at its own alpha, are bytes of dots with pixels drawn onto them. Assumes nothing.
use mathlib.Core.Path.{◌≡◌, refl, sym, ap, ◌∙◌}
use mathlib.Core.Bool.{Bool, true, false, ◌||◌, true≢false}
use mathlib.Core.Logic.{◌⊎◌, inl, inr, ⊎_elim}
use mathlib.Core.List.{List}
use Prim.Native.Nat.{ℕ, ◌+◌, ◌-◌, ◌*◌, ◌/◌, ◌%◌, ◌≤◌, ◌<◌}
use native.Mathlib.Nat.{add-zero, mul_assoc, mul-le-mul}
use native.Mathlib.Omega.{arith}
use lib.Dec.{eqb}
use lib.ListN.{length, get_or, set}
use borrow.Author.Tests.{eqb-true, eqb-false, eq-eqb, ne_eqb}
use Rattle.std.specs.Prelude.{if◌then◌else◌}
use Rattle.colour.specs.declared.RGBA.{RGBA}
use Rattle.colour.specs.Channel.{nearest, blend_byte}
use Rattle.colour.specs.Colour.{rgba, white, blended, multiplied}
use Rattle.colour.proofs.Laws.{rgba-eq, by-256, blend-byte-none, blend-byte-full, blended-none, blended-full, blended-some, multiplied-none, multiplied-some}
use Rattle.dots.specs.Dots.{dot_at, chan, drawn}
use Rattle.dots.proofs.Laws.{each-byte, byte_of, drawn-blended, drawn-multiplied}
use Rattle.dots.proofs.Bytes.{Over, over_none, over-step, over-change}
use Rattle.dots.proofs.Mixed.{Bytes}
use Rattle.dots.proofs.Scaled.{scaled}
use Rattle.pixels.specs.Pixels.{pixels_on}
use Rattle.pixels.specs.Steps.{crisp, all_crisp, inks, alphas, spread_on, drawn_byte}
use Rattle.pixels.proofs.Crispness.{all-crisp-at}
use Rattle.pixels.proofs.Spread.{spread_at}

-- ---- one byte

pub byte-blended : {t : Bool} {r : ℕ} (s c a : ℕ) → t ≡ false → r ≡ blend_byte s c a → r ≡ drawn_byte t s c a
unfolding drawn_byte
byte-blended s c a e er = rw e er

pub byte-scaled : {t : Bool} {r : ℕ} (s c a : ℕ) → t ≡ true → r ≡ nearest (s * (c * a)) 65025 → r ≡ drawn_byte t s c a
unfolding drawn_byte
byte-scaled s c a e er = rw e er

-- at full alpha 16 bits do
pub byte_full : {t : Bool} {r : ℕ} (s c a : ℕ) → s ≤ 255 → c ≤ 255 → t ≡ true → a ≡ 255
    → r ≡ (s * c + 128 + (s * c + 128) / 256) / 256 → r ≡ drawn_byte t s c a
byte_full s c a S C e f er =
    let whole : nearest (s * c) 255 ≡ nearest (s * c * 255) 65025 = omega arith in
    byte-scaled s c a e (er ∙ by-256 (s * c) (mul-le-mul S C) ∙ rw (f, ← mul_assoc s c 255) whole)

-- ---- the inks and alphas of one pixel

module _ (p : RGBA) {t : Bool} where
  pub inks-blended : t ≡ false → p ≡ inks t p
  unfolding inks
  inks-blended e = rw e

  pub inks-none : t ≡ true → p.a ≡ 0 → white ≡ inks t p
  unfolding inks
  inks-none e n = rw (e, eq-eqb p.a 0 n)

  pub inks-some : t ≡ true → (p.a ≡ 0 → ⊥) → rgba p.r p.g p.b 255 ≡ inks t p
  unfolding inks
  inks-some e n = rw (e, ne_eqb p.a 0 n)

  pub alphas-none : t ≡ true → p.a ≡ 0 → rgba 255 255 255 255 ≡ alphas t p
  unfolding alphas
  alphas-none e n = rw (e, eq-eqb p.a 0 n)

  pub alphas-some : t ≡ true → (p.a ≡ 0 → ⊥) → rgba p.a p.a p.a 255 ≡ alphas t p
  unfolding alphas
  alphas-some e n = rw (e, ne_eqb p.a 0 n)

  pub alphas-full : t ≡ false → p.a ≡ 255 → rgba p.a p.a p.a 255 ≡ alphas t p
  unfolding alphas
  alphas-full e f = rw (e, eq-eqb p.a 255 f)

  pub alphas-mixed : t ≡ false → (p.a ≡ 255 → ⊥) → rgba p.a p.a p.a 0 ≡ alphas t p
  unfolding alphas
  alphas-mixed e n = rw (e, ne_eqb p.a 255 n)

-- ---- one dot

-- the dot that the loop makes of s
abbrev by_bytes : Bool → RGBA → RGBA → RGBA
by_bytes t p s =
    let q = inks t p in
    let m = alphas t p in
    rgba (drawn_byte t s.r q.r m.r) (drawn_byte t s.g q.g m.g) (drawn_byte t s.b q.b m.b) (drawn_byte t s.a q.a m.a)

-- it is s with p drawn onto it
bytes-drawn : (t : Bool) (p s : RGBA) → Bytes p → Bytes s → by_bytes t p s ≡ drawn t p s
unfolding inks alphas drawn_byte
bytes-drawn true p s hp hs = go (eqb p.a 0) refl ∙ drawn-multiplied p s refl
  where
    near : ℕ → ℕ → ℕ → ℕ
    near x c a = nearest (x * (c * a)) 65025

    stays : (x : ℕ) → near x 255 255 ≡ x
    stays x = omega arith

    go : (n : Bool) → eqb p.a 0 ≡ n
        → (let q = (if n then white else rgba p.r p.g p.b 255) in
        let a = (if n then 255 else p.a) in
        rgba (near s.r q.r a) (near s.g q.g a) (near s.b q.b a) (near s.a q.a 255)) ≡ multiplied p s
    go true e = rgba-eq (stays _) (stays _) (stays _) (stays _) ∙ multiplied-none p s (eqb-true _ _ e)
    go false e =
        rgba-eq refl refl refl (stays _)
        ∙ multiplied-some p s (eqb-false _ _ e) (scaled _ _ _ hs.r hp.r hp.a) (scaled _ _ _ hs.g hp.g hp.a) (scaled _ _ _ hs.b hp.b hp.a)
bytes-drawn false p s hp hs = go (eqb p.a 0) (eqb p.a 255) refl refl ∙ drawn-blended p s refl
  where
    new : ℕ → ℕ → ℕ
    new x y = blend_byte y x p.a

    last : Bool → ℕ
    last f = blend_byte s.a p.a (if f then 255 else 0)

    go : (n f : Bool) → eqb p.a 0 ≡ n → eqb p.a 255 ≡ f
        → rgba (new p.r s.r) (new p.g s.g) (new p.b s.b) (last f) ≡ blended p s
    go n true en ef =
        let e : p.a ≡ 255 = eqb-true _ _ ef in
        let full : (x y : ℕ) → new x y ≡ x = λ x y. ap (blend_byte y x) e ∙ blend-byte-full y x in
        rgba-eq (full _ _) (full _ _) (full _ _) (blend-byte-full _ _ ∙ e) ∙ blended-full p s e
    go true false en ef =
        let e : p.a ≡ 0 = eqb-true _ _ en in
        let none : (x y : ℕ) → new x y ≡ y = λ x y. ap (blend_byte y x) e ∙ blend-byte-none y x in
        rgba-eq (none _ _) (none _ _) (none _ _) (blend-byte-none _ _) ∙ blended-none p s e
    go false false en ef =
        rgba-eq refl refl refl (blend-byte-none _ _) ∙ blended-some p s (eqb-false _ _ en) (eqb-false _ _ ef) refl refl refl

-- byte by byte
byte-drawn : (t : Bool) (p s : RGBA) → Bytes p → Bytes s → (k : ℕ) → k < 4 → drawn_byte t (chan s k) (chan (inks t p) k) (chan (alphas t p) k) ≡ chan (drawn t p s) k
unfolding chan
byte-drawn t p s hp hs = each-byte (λ k. drawn_byte t (chan s k) (chan (inks t p) k) (chan (alphas t p) k) ≡ chan (drawn t p s) k) (byte 0) (byte 1) (byte 2) (byte 3)
  where
    byte : (k : ℕ) → chan (by_bytes t p s) k ≡ chan (drawn t p s) k
    byte k = ap (λ (x : RGBA). chan x k) (bytes-drawn t p s hp hs)

-- multiplied, the bytes of a clear or opaque pixel are at full alpha
full-alpha : (p : RGBA) → crisp p ≡ true → (k : ℕ) → k < 4 → chan (alphas true p) k ≡ 255
unfolding crisp alphas chan
full-alpha p u = each-byte (λ k. chan (alphas true p) k ≡ 255) (byte 0) (byte 1) (byte 2) (byte 3)
  where
    whole : (n f : Bool) → eqb p.a 0 ≡ n → eqb p.a 255 ≡ f → (n || f) ≡ true → (let a = (if n then 255 else p.a) in rgba a a a 255) ≡ white
    whole true f en ef h = refl
    whole false true en ef h = let e : p.a ≡ 255 = eqb-true _ _ ef in rgba-eq e e e refl
    whole false false en ef h = absurd (true≢false (sym h))

    byte : (k : ℕ) → chan (alphas true p) k ≡ chan white k
    byte k = ap (λ (x : RGBA). chan x k) (whole (eqb p.a 0) (eqb p.a 255) refl refl u)

pub full-alphas : (pixels z : List ℕ) (from count : ℕ) {t f : Bool} {m : List ℕ} → count * 4 ≤ length z → m ≡ spread_on (alphas t) pixels from count z
    → (f ≡ false) ⊎ ((t ≡ true) × (all_crisp pixels from count ≡ true)) → (j : ℕ) → j < count * 4 → (f ≡ false) ⊎ (get_or m j 0 ≡ 255)
full-alphas pixels z from count {t} {f} {m} h em w j v =
    ⊎_elim
    (λ e. inl e)
    (λ e. inr (spread_at (alphas t) pixels from z count h em j v ∙ rw e.0 (full-alpha (dot_at pixels (from + j / 4)) (all-crisp-at pixels from count (j / 4) (omega arith) e.1) (j % 4) (omega arith))))
    w

-- ---- the loop over n bytes: j of them are drawn in b, from byte `to`, with the inks q at the alphas m

module _ (t : Bool) (q m : List ℕ) (to n : ℕ) (l : List ℕ) where
  pub record Draws (j : ℕ) (b : List ℕ) : Type 0 where
    pub upto : j ≤ n
    pub over : Over to (to + j) (λ i. drawn_byte t (get_or l i 0) (get_or q (i - to) 0) (get_or m (i - to) 0)) l b

  pub draws-start : Draws 0 l
  draws-start = record { upto = omega arith; over = rw add-zero (over_none to _ l) }

  pub draws-next : {j v : ℕ} {b : List ℕ} → to + n ≤ length l → Draws j b → j < n
      → v ≡ drawn_byte t (get_or b (to + j) 0) (get_or q j 0) (get_or m j 0) → Draws (j + 1) (set b (to + j) v)
  draws-next {j} {v} {b} h r u e =
      let up : to + (j + 1) ≡ to + j + 1 = omega arith in
      let back : j ≡ to + j - to = omega arith in
      let old : get_or b (to + j) 0 ≡ get_or l (to + j) 0 = r.over.kept (to + j) (inr (omega arith)) in
      let new : v ≡ drawn_byte t (get_or l (to + j) 0) (get_or q (to + j - to) 0) (get_or m (to + j - to) 0) = e ∙ rw old (ap (λ (k : ℕ). drawn_byte t (get_or l (to + j) 0) (get_or q k 0) (get_or m k 0)) back) in
      record { upto = omega arith; over = rw up (over-step to (to + j) _ l b v (omega arith) (omega arith) r.over new) }

pub draws-end : (t : Bool) (pixels y z : List ℕ) (from at count : ℕ) (l : List ℕ) {q m : List ℕ} {j : ℕ} {b : List ℕ}
    → (at + count) * 4 ≤ length l → count * 4 ≤ length y → count * 4 ≤ length z
    → ((i : ℕ) → get_or l i 0 ≤ 255) → ((i : ℕ) → get_or pixels i 0 ≤ 255)
    → q ≡ spread_on (inks t) pixels from count y → m ≡ spread_on (alphas t) pixels from count z
    → Draws t q m (at * 4) (count * 4) l j b → count * 4 ≤ j → b ≡ pixels_on t pixels from at count l
unfolding pixels_on
draws-end t pixels y z from at count l {q} {m} {j} {b} h hy hz hl hp eq em r u =
    let e : at * 4 + j ≡ (at + count) * 4 = omega (arith, r.upto) in
    over-change at (at + count) _ l b _ h (rw e at r.over) one
  where
    one : (i : ℕ) → at * 4 ≤ i → i < (at + count) * 4
        → drawn_byte t (get_or l i 0) (get_or q (i - at * 4) 0) (get_or m (i - at * 4) 0) ≡ chan (drawn t (dot_at pixels (from + (i / 4 - at))) (dot_at l (i / 4))) (i % 4)
    one i v w =
        let d : (i - at * 4) / 4 ≡ i / 4 - at = omega arith in
        let k : (i - at * 4) % 4 ≡ i % 4 = omega arith in
        rw (byte_of l (i / 4) i (i % 4) (omega arith) (omega arith), spread_at (inks t) pixels from y count hy eq (i - at * 4) (omega arith), spread_at (alphas t) pixels from z count hz em (i - at * 4) (omega arith), d, k)
        (byte-drawn t (dot_at pixels (from + (i / 4 - at))) (dot_at l (i / 4)) (record { r = hp _; g = hp _; b = hp _; a = hp _ }) (record { r = hl _; g = hl _; b = hl _; a = hl _ }) (i % 4) (omega arith))
