-- Bits drawn on dots. Assumes nothing.
use Rattle.std.proofs.Common.{◌≡◌, ◌≢◌, refl, ap, ◌∙◌, inr, Bool, not, List, ℕ, ◌+◌, ◌-◌, ◌*◌, ◌/◌, ◌%◌, ◌^◌, ◌≤◌, ◌<◌, bit_and, eqb, length, get_or, set, if◌then◌else◌, arith, add-zero}
use Rattle.colour.specs.Colour.{rgba, with_alpha}
use Rattle.colour.specs.declared.RGBA.{RGBA}
use Rattle.dots.specs.Dots.{tab, dot_at, chan, change, within, drawn}
use Rattle.dots.specs.Tables.{lanes, factors, terms, Whole}
use Rattle.dots.proofs.Laws.{get_or-tab, byte_of, change-idle, drawn-none}
use Rattle.dots.proofs.Bytes.{Over, over_none, over-step, over-change}
use Rattle.dots.proofs.Mixed.{mixed, Bytes, lane-at, lanes_fit, mixed-dot, byte-mixed}
use Rattle.bits.specs.Bits.{alpha_drawn}
use Rattle.bits.specs.Steps.{byte_on, bit_on}
use Rattle.bits.proofs.Unpacking.{Told, off, lit, told, is_one}

-- a bit is drawn at full alpha
pub full : (t : Bool) (c : RGBA) → Whole t (with_alpha c 255)
full t c = record { some = omega arith; full = λ e. refl }

pub ink : (c : RGBA) → Bytes c → Bytes (with_alpha c 255)
ink c p = record { r = p.r; g = p.g; b = p.g; a = omega arith }

-- ---- the dots of a stretched bit

pub bit_kept : {bit : ℕ} (t : Bool) (c : RGBA) (at n : ℕ) (l : List ℕ) → bit ≡ 0 → l ≡ bit_on (alpha_drawn t c) bit at n l
unfolding bit_on
bit_kept t c at n l z = change-idle (within at (at + n)) _ l (λ i _. rw z (drawn-none t (with_alpha c 0) (dot_at l i) refl))

pub bit-mixed : {bit : ℕ} {p : RGBA} (t : Bool) (c : RGBA) (at n : ℕ) (l : List ℕ) {m : List ℕ} → bit < 2 → bit ≢ 0 → p ≡ with_alpha c 255
    → m ≡ change (within at (at + n)) (λ _ s. drawn t p s) l → m ≡ bit_on (alpha_drawn t c) bit at n l
unfolding bit_on
bit-mixed {bit} t c at n l h z ep em = let o : bit ≡ 1 = is_one h z in em ∙ rw (ep, o)

-- ---- the bits of a byte

-- whether byte j's mask meets the byte
abbrev pub on : ℕ → List ℕ → ℕ → Bool
on byte masks j = not (eqb (bit_and byte (get_or masks j 0)) 0)

abbrev pub stamped : Bool → ℕ → ℕ → ℕ → ℕ
stamped t m k s = if t then mixed m k s else s

-- what a colour's mix makes of a byte is what its factor and its term make of it
pub byte-stamped : (w t : Bool) (c : RGBA) (s j : ℕ) → Bytes c → s ≤ 255 → j < 64
    → let d = with_alpha c 255 in (if w then chan (drawn t d (rgba s s s s)) (j % 4) else s) ≡ stamped w (get_or (lanes (factors t d)) j 0) (get_or (lanes (terms t d)) j 0) s
byte-stamped w t c s j p h u = ap (λ (v : ℕ). if w then v else s) (byte-mixed t (with_alpha c 255) s (ink c p) h (full t c) j u)

module _ (byte : ℕ) (masks m k : List ℕ) where
  -- j bytes from byte `from` on are stamped in b
  abbrev pub Stamps : ℕ → ℕ → List ℕ → List ℕ → Type 0
  Stamps from j l b = Over from (from + j) (λ i. stamped (on byte masks (i - from)) (get_or m (i - from) 0) (get_or k (i - from) 0) (get_or l i 0)) l b

  pub stamp-start : (from : ℕ) (l : List ℕ) → Stamps from 0 l l
  stamp-start from l = rw add-zero (over_none from _ l)

  pub stamp-turn : (from j : ℕ) (l b : List ℕ) (v : ℕ) → from + j < length l → Stamps from j l b
      → v ≡ stamped (on byte masks j) (get_or m j 0) (get_or k j 0) (get_or b (from + j) 0) → Stamps from (j + 1) l (set b (from + j) v)
  stamp-turn from j l b v h o e =
      let up : from + (j + 1) ≡ from + j + 1 = omega arith in
      let back : j ≡ from + j - from = omega arith in
      let old : get_or b (from + j) 0 ≡ get_or l (from + j) 0 = o.kept (from + j) (inr (omega arith)) in
      rw up (over-step from (from + j) _ l b v (omega arith) h o
      (e ∙ rw old (ap (λ (n : ℕ). stamped (on byte masks n) (get_or m n 0) (get_or k n 0) (get_or l (from + j) 0)) back)))

  module _ (t : Bool) (c : RGBA) (p : Bytes c) (em : m ≡ lanes (factors t (with_alpha c 255))) (ek : k ≡ lanes (terms t (with_alpha c 255))) where
    pub stamp-fits : (j : ℕ) → j < 64 → 255 * get_or m j 0 + get_or k j 0 ≤ 65153
    stamp-fits j h = rw (lane-at _ em j h, lane-at _ ek j h) (lanes_fit t (with_alpha c 255) (ink c p) (j % 4) (omega arith))

    pub stamp-end : (at n : ℕ) (l b : List ℕ) → ((i : ℕ) → get_or l i 0 ≤ 255) → masks ≡ tab 32 (λ j. 2 ^ (7 - j / 4)) → n ≤ 8 → (at + n) * 4 ≤ length l
        → Stamps (at * 4) (n * 4) l b → b ≡ byte_on (alpha_drawn t c) byte at n l
    unfolding byte_on
    stamp-end at n l b q es few h o =
        let e : at * 4 + n * 4 ≡ (at + n) * 4 = omega arith in
        over-change at (at + n) _ l b _ h (rw e at o) one
      where
        dot : (i : ℕ) (s : RGBA) → Bytes s → {w : Bool} {x : ℕ} → Told w x → (j : ℕ) → j < 4
            → stamped w (chan (factors t (with_alpha c 255)) j) (chan (terms t (with_alpha c 255)) j) (chan s j) ≡ chan (alpha_drawn t c (x * 255) s) j
        dot i s bs (off e f) j u = rw (e, f) (ap (λ (d : RGBA). chan d j) (drawn-none t (with_alpha c 0) s refl))
        dot i s bs (lit e f) j u = rw (e, f) (mixed-dot t (with_alpha c 255) s (ink c p) bs (full t c) j u)

        one : (i : ℕ) → at * 4 ≤ i → i < (at + n) * 4
            → stamped (on byte masks (i - at * 4)) (get_or m (i - at * 4) 0) (get_or k (i - at * 4) 0) (get_or l i 0)
            ≡ chan (alpha_drawn t c (byte / 2 ^ (7 - (i / 4 - at)) % 2 * 255) (dot_at l (i / 4))) (i % 4)
        one i u v =
            let z : (i - at * 4) % 4 ≡ i % 4 = omega arith in
            let y : (i - at * 4) / 4 ≡ i / 4 - at = omega arith in
            let mask : get_or masks (i - at * 4) 0 ≡ 2 ^ (7 - (i / 4 - at)) = rw es (get_or-tab 32 (λ j. 2 ^ (7 - j / 4)) (i - at * 4) 0 (omega arith) ∙ rw y) in
            rw (lane-at _ em (i - at * 4) (omega arith), lane-at _ ek (i - at * 4) (omega arith), z, byte_of l (i / 4) i (i % 4) (omega arith) (omega arith))
            (dot i (dot_at l (i / 4)) (record { r = q _; g = q _; b = q _; a = q _ }) (told byte (7 - (i / 4 - at)) mask) (i % 4) (omega arith))
