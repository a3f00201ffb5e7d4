-- What an entry's definitions come to, refused and done. Assumes nothing.
use mathlib.Core.Path.{◌≡◌, ap}
use mathlib.Core.Bool.{Bool, false}
use mathlib.Core.List.{List}
use Prim.Native.Nat.{ℕ, ◌*◌, ◌≤◌, ◌<◌}
use native.Mathlib.Omega.{arith}
use borrow.Author.Tests.{eq-eqb, ne_eqb, ltb-false}
use Rattle.numbers.specs.Numbers.{done}
use Rattle.colour.specs.declared.RGBA.{RGBA}
use Rattle.images.specs.declared.formats.Format.{Format}
use Rattle.images.specs.Formats.{bytes_of, raster_of}
use Rattle.bits.specs.Bits.{landed}
use Rattle.graphics.specs.Decoding.{lacks_room, answer, output}
use Rattle.images.specs.Steps.{Sound, picture_on}
use Rattle.graphics.specs.Steps.{Layered}
use Rattle.images.proofs.Sides.{Small}
use Rattle.graphics.proofs.Codes.{Layers}

-- ---- the answer and the output

module _ (number w h fx fy : ℕ) where
  pub answer-refused : (number ≡ done → ⊥) → record { number = number; w = 0; h = 0 } ≡ answer number w h fx fy
  unfolding answer
  answer-refused e = rw (ne_eqb number done e)

  pub answer-done : number ≡ done → record { number = done; w = w * fx; h = h * fy } ≡ answer number w h fx fy
  unfolding answer
  answer-done e = rw (eq-eqb number done e)

  module _ (pixel : ℕ → ℕ → RGBA) (out : List ℕ) where
    pub output-refused : (number ≡ done → ⊥) → out ≡ output number w h fx fy pixel out
    unfolding output
    output-refused e = rw (ne_eqb number done e)

    pub output-done : number ≡ done → {m : List ℕ} → m ≡ picture_on (w * fx) (h * fy) false pixel out → m ≡ output number w h fx fy pixel out
    unfolding output picture_on landed
    output-done e em = rw (eq-eqb number done e) em

-- ---- what the inner steps ask for

pub room_for : (w h fx fy : ℕ) {room : ℕ} → lacks_room w h fx fy room ≡ false → w * fx * (h * fy) * 4 ≤ room
unfolding lacks_room
room_for w h fx fy {room} e = omega (arith, ltb-false room (4 * (w * fx * (h * fy))) e)

pub sound-of : (f : Format) (w h fx fy : ℕ) (c : RGBA) {n : ℕ} → Small w h fx fy → 0 < fx → 0 < fy → bytes_of f w h ≤ n
    → Sound record { format = f; w = w; h = h; fx = fx; fy = fy; color = c } n
sound-of f w h fx fy c s px py b = record { fx = px; fy = py; wide = s.wide; tall = s.tall; bytes = b }

pub layered-of : (bits : Bool) (w h fx fy : ℕ) (c : RGBA) {f : Format} {n size room : ℕ} → f ≡ raster_of bits → Layers bits w h fx fy n size room → 0 < fx → 0 < fy
    → Layered bits record { format = f; w = w; h = h; fx = fx; fy = fy; color = c } n size
layered-of bits w h fx fy c {f} e y px py =
    record { format = e; sound = sound-of f w h fx fy c y.sides px py (omega (arith, y.bytes, ap (λ (g : Format). bytes_of g w h) e)); whole = omega (arith, y.whole) }
