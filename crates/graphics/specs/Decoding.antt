-- Single-colour images: 01, "Decoding". A decoded image is a pixel for each column and row.
use Rattle.std.specs.Prelude.{ℕ, ◌*◌, ◌/◌, ◌%◌, Bool, not, List, length, ltb, eqb, if◌then◌else◌}
use Rattle.numbers.specs.Numbers.{done, no_room, too_large, wrong_length}
use Rattle.colour.specs.declared.RGBA.{RGBA}
use Rattle.dots.specs.Dots.{change, within}
use Rattle.images.specs.declared.formats.Format.{Format}
use Rattle.images.specs.Formats.{bytes_of}
use Rattle.images.specs.Stretching.{factor, pixel_of, is_large}
use Rattle.graphics.specs.declared.Decoded.{Decoded}

-- an output of `room` bytes is too short for the stretched image
unfoldable pub lacks_room : ℕ → ℕ → ℕ → ℕ → ℕ → Bool
lacks_room w h fx fy room = ltb room (4 * (w * fx * (h * fy)))

-- order 2, 3, 1, for n bytes of data
unfoldable pub refusal : Format → ℕ → ℕ → ℕ → ℕ → ℕ → ℕ → ℕ
refusal f w h fx fy n room =
    if is_large w h fx fy then too_large
    else if not (eqb n (bytes_of f w h)) then wrong_length
    else if lacks_room w h fx fy room then no_room
    else done

-- the answer: the number with the stretched sizes, and zero sizes for a refusal
unfoldable pub answer : ℕ → ℕ → ℕ → ℕ → ℕ → Decoded
answer number w h fx fy =
    if eqb number done then record { number = done; w = w * fx; h = h * fy } else record { number = number; w = 0; h = 0 }

-- the output: the pixels row by row from its first byte on, and the rest as it was; for a refusal all of it as it was
unfoldable pub output : ℕ → ℕ → ℕ → ℕ → ℕ → (ℕ → ℕ → RGBA) → List ℕ → List ℕ
output number w h fx fy pixel out =
    if eqb number done then change (within 0 (w * fx * (h * fy))) (λ i _. pixel (i % (w * fx)) (i / (w * fx))) out else out

-- a single-colour decoder, on n bytes of data and an output of `room` bytes
unfoldable pub decoded : Format → ℕ → ℕ → ℕ → ℕ → ℕ → ℕ → Decoded
decoded f w h sx sy n room =
    let fx = factor sx in
    let fy = factor sy in
    answer (refusal f w h fx fy n room) w h fx fy

unfoldable pub decoded_on : Format → List ℕ → ℕ → ℕ → ℕ → ℕ → RGBA → List ℕ → List ℕ
decoded_on f bytes w h sx sy c out =
    let fx = factor sx in
    let fy = factor sy in
    output (refusal f w h fx fy (length bytes) (length out)) w h fx fy (pixel_of f bytes w h fx fy c) out
