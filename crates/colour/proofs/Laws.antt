-- Laws of the definitions of colour, for this crate and for callers. Assumes nothing.
use Rattle.std.proofs.Common.{◌≡◌, ℕ, ◌+◌, ◌*◌, ◌/◌, ◌≤◌, arith, eq-eqb, ne_eqb}
use Rattle.colour.specs.declared.RGBA.{RGBA}
use Rattle.colour.specs.Channel.{nearest, blend_byte, multiply_byte}
use Rattle.colour.specs.Colour.{rgba, blended_at, multiplied}
use Rattle.colour.proofs.Accurate.{at-full-alpha}
use Rattle.colour.proofs.Halves.{nearest-product}

-- two colours are equal by their parts
pub rgba-eq : {c d : RGBA} → c.r ≡ d.r → c.g ≡ d.g → c.b ≡ d.b → c.a ≡ d.a → c ≡ d
rgba-eq p q r s = λ i. record { r = p i; g = q i; b = r i; a = s i }

-- ---- blending at the alphas that need no arithmetic, and at the others

-- the whole number nearest n / 255, by two divisions by 256
pub by-256 : (n : ℕ) → n ≤ 65025 → (n + 128 + (n + 128) / 256) / 256 ≡ nearest n 255
by-256 n h = omega arith

pub blend-byte-none : (s c : ℕ) → blend_byte s c 0 ≡ s
unfolding blend_byte
blend-byte-none s c = omega arith

pub blend-byte-full : (s c : ℕ) → blend_byte s c 255 ≡ c
unfolding blend_byte
blend-byte-full s c = omega arith

pub blended-none : (c s : RGBA) {a : ℕ} → a ≡ 0 → s ≡ blended_at a c s
unfolding blended_at
blended-none c s e = rw (eq-eqb _ 0 e)

pub blended-full : (c s : RGBA) {a : ℕ} → a ≡ 255 → rgba c.r c.g c.b 255 ≡ blended_at a c s
unfolding blended_at
blended-full c s e = rw (e, blend-byte-full, blend-byte-full, blend-byte-full)

pub blended-some : (c s : RGBA) {a r g b : ℕ} → (a ≡ 0 → ⊥) → (a ≡ 255 → ⊥)
    → r ≡ blend_byte s.r c.r a → g ≡ blend_byte s.g c.g a → b ≡ blend_byte s.b c.b a → rgba r g b s.a ≡ blended_at a c s
unfolding blended_at
blended-some c s {a} n f er eg eb = rw (ne_eqb a 0 n, ne_eqb a 255 f, er, eg, eb)

-- ---- multiplying

pub multiplied-none : (c s : RGBA) → c.a ≡ 0 → s ≡ multiplied c s
unfolding multiplied
multiplied-none c s e = rw (eq-eqb _ 0 e)

pub multiplied-some : (c s : RGBA) {r g b : ℕ} → (c.a ≡ 0 → ⊥)
    → r ≡ multiply_byte s.r c.r c.a → g ≡ multiply_byte s.g c.g c.a → b ≡ multiply_byte s.b c.b c.a → rgba r g b s.a ≡ multiplied c s
unfolding multiplied
multiplied-some c s n er eg eb = rw (ne_eqb c.a 0 n, er, eg, eb)

pub multiply-byte-full : (s c : ℕ) → s ≤ 255 → c ≤ 255 → multiply_byte s c 255 ≡ nearest (s * c) 255
unfolding multiply_byte
multiply-byte-full s c hs hc = at-full-alpha s c hs hc

-- at every alpha it is the whole number nearest s·c·a / 65025
pub multiply-byte-nearest : (s c a : ℕ) → s ≤ 255 → c ≤ 255 → a ≤ 255 → multiply_byte s c a ≡ nearest (s * c * a) 65025
multiply-byte-nearest s c a hs hc ha = nearest-product s c a hs hc ha
