-- From tests to a refusal's number, and from number 0 to what was tested. Assumes nothing.
use mathlib.Core.Path.{◌≡◌, refl}
use mathlib.Core.Bool.{Bool, true, false, not, ◌&&◌}
use Prim.Native.Nat.{ℕ, ◌+◌, ◌*◌, ◌/◌, ◌≤◌}
use native.Mathlib.Omega.{arith}
use lib.Dec.{eqb}
use borrow.Author.Tests.{eqb-true, eqb-false, eq-eqb, ne_eqb}
use Rattle.numbers.specs.Numbers.{limit, done, no_room, too_large, wrong_length, no_layers, layer_size}
use Rattle.numbers.proofs.Sides.{area}
use Rattle.std.specs.Prelude.{if◌then◌else◌}
use Rattle.images.specs.declared.formats.Format.{Format}
use Rattle.images.specs.Formats.{bytes_of, raster_of}
use Rattle.images.specs.Stretching.{is_large}
use Rattle.images.proofs.Sides.{Small, small}
use Rattle.graphics.specs.Decoding.{lacks_room, refusal}
use Rattle.graphics.specs.Layers.{layer_bytes, outgrown, layers_refusal}

-- ---- a single-colour image

module _ (f : Format) (w h fx fy n room : ℕ) where
  pub single-large : is_large w h fx fy ≡ true → too_large ≡ refusal f w h fx fy n room
  unfolding refusal
  single-large l = rw l

  pub single-length : is_large w h fx fy ≡ false → (n ≡ bytes_of f w h → ⊥) → wrong_length ≡ refusal f w h fx fy n room
  unfolding refusal
  single-length l e = rw (l, ne_eqb n (bytes_of f w h) e)

  pub single-rest : is_large w h fx fy ≡ false → n ≡ bytes_of f w h → {t : Bool} → lacks_room w h fx fy room ≡ t → (if t then no_room else done) ≡ refusal f w h fx fy n room
  unfolding refusal
  single-rest l e {t} u = rw (l, eq-eqb n (bytes_of f w h) e, u)

  pub record Single : Type 0 where
    pub sides : Small w h fx fy
    pub bytes : n ≡ bytes_of f w h
    pub fits : lacks_room w h fx fy room ≡ false

  pub single-done : refusal f w h fx fy n room ≡ done → Single
  unfolding refusal
  single-done = go (is_large w h fx fy) (eqb n (bytes_of f w h)) (lacks_room w h fx fy room) refl refl refl
    where
      go : (a b c : Bool) → is_large w h fx fy ≡ a → eqb n (bytes_of f w h) ≡ b → lacks_room w h fx fy room ≡ c
          → (if a then too_large else if not b then wrong_length else if c then no_room else done) ≡ done → Single
      go false true false l e u r = record { sides = small w h fx fy l; bytes = eqb-true n (bytes_of f w h) e; fits = u }
      go true b c l e u r = absurd (omega arith)
      go false false c l e u r = absurd (omega arith)
      go false true true l e u r = absurd (omega arith)

-- ---- an image of n layers

pub layer-small : (bits : Bool) {w h : ℕ} → w ≤ limit → h ≤ limit → layer_bytes bits w h ≤ 268435456
unfolding layer_bytes
layer-small true {w} a b = area {a = w / 8} (omega arith) b
layer-small false a b = area a b

module _ (bits : Bool) (w h fx fy n size room : ℕ) where
  abbrev layer : ℕ
  layer = layer_bytes bits w h

  abbrev asked : ℕ
  asked = bytes_of (raster_of bits) w h

  pub layers-large : is_large w h fx fy ≡ true → too_large ≡ layers_refusal bits w h fx fy n size room
  unfolding layers_refusal
  layers-large l = rw l

  pub layers-length : is_large w h fx fy ≡ false → (size ≡ n * (1 + layer) → ⊥) → wrong_length ≡ layers_refusal bits w h fx fy n size room
  unfolding layers_refusal
  layers-length l e = rw (l, ne_eqb size (n * (1 + layer)) e)

  pub layers-none : is_large w h fx fy ≡ false → size ≡ n * (1 + layer) → n ≡ 0 → no_layers ≡ layers_refusal bits w h fx fy n size room
  unfolding layers_refusal
  layers-none l e z = rw (l, eq-eqb size (n * (1 + layer)) e, eq-eqb n 0 z)

  pub layers-inner : is_large w h fx fy ≡ false → size ≡ n * (1 + layer) → (n ≡ 0 → ⊥) → (layer ≡ asked → ⊥) → wrong_length ≡ layers_refusal bits w h fx fy n size room
  unfolding layers_refusal
  layers-inner l e z i = rw (l, eq-eqb size (n * (1 + layer)) e, ne_eqb n 0 z, ne_eqb layer asked i)

  pub layers-rest : is_large w h fx fy ≡ false → size ≡ n * (1 + layer) → (n ≡ 0 → ⊥) → layer ≡ asked
      → {s t : Bool} → outgrown (w * fx) (h * fy) (w * fx) (h * fy) ≡ s → lacks_room w h fx fy room ≡ t → (if s then layer_size else if t then no_room else done) ≡ layers_refusal bits w h fx fy n size room
  unfolding layers_refusal
  layers-rest l e z i {s} {t} o u = rw (l, eq-eqb size (n * (1 + layer)) e, ne_eqb n 0 z, eq-eqb layer asked i, o, u)

  pub record Layers : Type 0 where
    pub sides : Small w h fx fy
    pub whole : size ≡ n * (1 + layer)
    pub some : n ≡ 0 → ⊥
    pub bytes : layer ≡ asked
    pub fits : lacks_room w h fx fy room ≡ false

  pub layers-done : layers_refusal bits w h fx fy n size room ≡ done → Layers
  unfolding layers_refusal
  layers-done = go (is_large w h fx fy) (eqb size (n * (1 + layer))) (eqb n 0) (eqb layer asked) (outgrown (w * fx) (h * fy) (w * fx) (h * fy)) (lacks_room w h fx fy room) refl refl refl refl refl
    where
      go : (a b c d s t : Bool) → is_large w h fx fy ≡ a → eqb size (n * (1 + layer)) ≡ b → eqb n 0 ≡ c → eqb layer asked ≡ d → lacks_room w h fx fy room ≡ t
          → (if a then too_large else if not b then wrong_length else if not c && not d then wrong_length else if c then no_layers else if s then layer_size else if t then no_room else done) ≡ done → Layers
      go false true false true false false la lb lc ld lt r =
          record { sides = small w h fx fy la; whole = eqb-true size (n * (1 + layer)) lb; some = eqb-false n 0 lc; bytes = eqb-true layer asked ld; fits = lt }
      go true b c d s t la lb lc ld lt r = absurd (omega arith)
      go false false c d s t la lb lc ld lt r = absurd (omega arith)
      go false true true d s t la lb lc ld lt r = absurd (omega arith)
      go false true false false s t la lb lc ld lt r = absurd (omega arith)
      go false true false true true t la lb lc ld lt r = absurd (omega arith)
      go false true false true false true la lb lc ld lt r = absurd (omega arith)
