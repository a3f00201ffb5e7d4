-- The contract of each step that drawing calls leaves one answer. Assumes nothing.
use mathlib.Core.Path.{◌≡◌}
use Prim.Native.Nat.{ℕ}
use Rattle.numbers.proofs.OneAnswer.{OneAnswer, both}
use Rattle.numbers.proofs.Refusals.{one_answer}
use Rattle.places.specs.declared.sizes.Crop.{Crop}
use Rattle.places.proofs.rules.place_refusal.Reads as place-refusal
use Rattle.places.proofs.rect.rect_refusal.Reads as rect-refusal
use Rattle.places.proofs.flip.flip_refusal.Reads as flip-refusal
use Rattle.places.proofs.border.border_refusal.Reads as border-refusal
use Rattle.places.proofs.sizes.crop_pixels.Reads as crop-pixels
use Rattle.places.proofs.sizes.tall_after.Reads as tall-after
use Rattle.places.proofs.sizes.flip_tall.Reads as flip-tall
use Rattle.places.proofs.sizes.flips.Reads as flips
use Rattle.places.proofs.sizes.image_tall.Reads as image-tall

place-refusal-one : OneAnswer place-refusal.Post
place-refusal-one k a x y e f p q = one_answer x y (both p q)

rect-refusal-one : OneAnswer rect-refusal.Post
rect-refusal-one k a x y e f p q = one_answer x y (both p q)

flip-refusal-one : OneAnswer flip-refusal.Post
flip-refusal-one k a x y e f p q = one_answer x y (both p q)

border-refusal-one : OneAnswer border-refusal.Post
border-refusal-one k a x y e f p q = one_answer x y (both p q)

crop-pixels-one : OneAnswer crop-pixels.Post
crop-pixels-one k a x y e f p q = same (both p.0 q.0) (both p.1 q.1)
  where
    same : {w h w' h' : ℕ} → w ≡ w' → h ≡ h' → ◌≡◌ {A = Crop} (record { w = w; h = h }) (record { w = w'; h = h' })
    same u v = rw (u, v)

tall-after-one : OneAnswer tall-after.Post
tall-after-one k a x y e f p q = both p q

flip-tall-one : OneAnswer flip-tall.Post
flip-tall-one k a x y e f p q = both p q

flips-one : OneAnswer flips.Post
flips-one k a x y e f p q = both p q

image-tall-one : OneAnswer image-tall.Post
image-tall-one k a x y e f p q = both p q
