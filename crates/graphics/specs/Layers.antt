-- Images of several layers: 01, "Decoding".
use Rattle.std.specs.Prelude.{ℕ, zero, suc, ◌+◌, ◌-◌, ◌*◌, ◌/◌, Bool, not, ◌&&◌, ◌||◌, List, length, get_or, take, drop, ltb, eqb, if◌then◌else◌}
use Rattle.numbers.specs.Numbers.{done, no_room, too_large, wrong_length, no_layers, layer_size}
use Rattle.colour.specs.Colour.{color_for_number, blended}
use Rattle.colour.specs.declared.RGBA.{RGBA}
use Rattle.colour.specs.declared.RenderColors.{RenderColors}
use Rattle.images.specs.Formats.{bytes_of, raster_of}
use Rattle.images.specs.Stretching.{factor, pixel_of, is_large}
use Rattle.graphics.specs.declared.Decoded.{Decoded}
use Rattle.graphics.specs.Decoding.{lacks_room, answer, output}

-- a layer's bytes after its colour byte: floor(w/8)·h as bits, w·h as alphas
unfoldable pub layer_bytes : Bool → ℕ → ℕ → ℕ
layer_bytes bits w h = if bits then w / 8 * h else w * h

-- where layer k starts, with its colour byte
unfoldable pub layer_start : Bool → ℕ → ℕ → ℕ → ℕ
layer_start bits w h k = k * (1 + layer_bytes bits w h)

-- its colour
unfoldable pub layer_color : RenderColors → List ℕ → Bool → ℕ → ℕ → ℕ → RGBA
layer_color colors bytes bits w h k = color_for_number colors (get_or bytes (layer_start bits w h k) 0)

-- its data: the part of the input after its colour byte
unfoldable pub layer_data : List ℕ → Bool → ℕ → ℕ → ℕ → List ℕ
layer_data bytes bits w h k = take (layer_bytes bits w h) (drop (layer_start bits w h k + 1) bytes)

-- its pixels, as a single-colour image's
unfoldable pub layer_pixel : RenderColors → List ℕ → Bool → ℕ → ℕ → ℕ → ℕ → ℕ → ℕ → ℕ → RGBA
layer_pixel colors bytes bits w h fx fy k = pixel_of (raster_of bits) (layer_data bytes bits w h k) w h fx fy (layer_color colors bytes bits w h k)

-- the first layer, and k later ones blended onto it in order at their own alpha
unfoldable pub merged_pixel : RenderColors → List ℕ → Bool → ℕ → ℕ → ℕ → ℕ → ℕ → ℕ → ℕ → RGBA
merged_pixel colors bytes bits w h fx fy zero i j = layer_pixel colors bytes bits w h fx fy 0 i j
merged_pixel colors bytes bits w h fx fy (suc k) i j = blended (layer_pixel colors bytes bits w h fx fy (suc k) i j) (merged_pixel colors bytes bits w h fx fy k i j)

-- a later layer is wider or taller than the first
unfoldable pub outgrown : ℕ → ℕ → ℕ → ℕ → Bool
outgrown w h w' h' = ltb w w' || ltb h h'

-- order 2, 3, 4, 16, 1, for n layers. Each layer goes through the single-colour decoder, so its bytes must be as many as that one asks for, and its size is the first one's
unfoldable pub layers_refusal : Bool → ℕ → ℕ → ℕ → ℕ → ℕ → ℕ → ℕ → ℕ
layers_refusal bits w h fx fy n size room =
    if is_large w h fx fy then too_large
    else if not (eqb size (n * (1 + layer_bytes bits w h))) then wrong_length
    else if not (eqb n 0) && not (eqb (layer_bytes bits w h) (bytes_of (raster_of bits) w h)) then wrong_length
    else if eqb n 0 then no_layers
    else if outgrown (w * fx) (h * fy) (w * fx) (h * fy) then layer_size
    else if lacks_room w h fx fy room then no_room
    else done

-- the decoder of n layers, on `size` bytes of data and an output of `room` bytes
unfoldable pub merged : Bool → ℕ → ℕ → ℕ → ℕ → ℕ → ℕ → ℕ → Decoded
merged bits w h sx sy n size room =
    let fx = factor sx in
    let fy = factor sy in
    answer (layers_refusal bits w h fx fy n size room) w h fx fy

unfoldable pub merged_on : Bool → List ℕ → ℕ → ℕ → ℕ → ℕ → ℕ → RenderColors → List ℕ → List ℕ
merged_on bits bytes w h sx sy n colors out =
    let fx = factor sx in
    let fy = factor sy in
    output (layers_refusal bits w h fx fy n (length bytes) (length out)) w h fx fy (merged_pixel colors bytes bits w h fx fy (n - 1)) out
