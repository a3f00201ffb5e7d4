-- 01's edges, and those at which a nearby rule would answer otherwise. Assumes nothing.
use mathlib.Core.Path.{◌≡◌, refl}
use mathlib.Core.Bool.{true, false}
use Rattle.colour.specs.Colour.{white}
use Rattle.thermal_image.specs.Canvas.{canvas}
use Rattle.refusals.specs.Refusals.{off_refusal}
use Rattle.places.specs.Places.{cropped, crop_wide, crop_tall, tall_after, short_refusal, flips, image_tall}

-- a 0 by 0 put at y = 7 makes H = 7
empty-put : tall_after (canvas 10 0 true white) 0 7 0 0 ≡ 7
unfolding tall_after crop_tall cropped
empty-put = refl

-- x = W − 1 passes, x = W is 5
last-column : off_refusal 10 3 true 9 0 ≡ 0
unfolding off_refusal
last-column = refl

past-column : off_refusal 10 3 true 10 0 ≡ 5
unfolding off_refusal
past-column = refl

-- a crop that cuts nothing: y + w = 4 is above H = 3, and three pixels of four are given
short-uncut : short_refusal (canvas 10 3 false white) 0 0 4 1 3 ≡ 7
unfolding short_refusal crop_tall crop_wide cropped
short-uncut = refl

not-cropped : short_refusal (canvas 10 4 false white) 0 0 4 1 3 ≡ 0
unfolding short_refusal crop_tall crop_wide cropped
not-cropped = refl

-- growth off, and a put that is taller than wide: y + w is not above H, so the canvas grows
tall-grows : tall_after (canvas 10 3 false white) 0 1 2 9 ≡ 10
unfolding tall_after crop_tall cropped
tall-grows = refl

-- an upside-down image with growth off is flipped at its full height
upside-down : image_tall true (canvas 2 2 false white) 0 1 2 2 ≡ 3
unfolding image_tall flips tall_after crop_tall cropped
upside-down = refl
