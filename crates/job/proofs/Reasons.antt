-- What a command is dropped for: from tests to the number, and from number 0 to what was tested. Assumes nothing.
use Prim.Native.Nat.{ℕ, ◌+◌, ◌*◌, ◌≤◌, ◌<◌, max}
use mathlib.Core.Path.{◌≡◌, refl}
use mathlib.Core.Bool.{Bool, true, false, not, true≢false}
use native.Mathlib.Omega.{arith}
use borrow.Author.Tests.{eq-eqb, ne_eqb, eqb-true}
use lib.Dec.{eqb}
use Rattle.numbers.specs.Numbers.{limit, done, too_large, wrong_length}
use Rattle.colour.specs.declared.RGBA.{RGBA}
use Rattle.refusals.specs.Refusals.{tall_refusal}
use Rattle.refusals.proofs.Codes.{first_done, passed_on, tall-done, side-done, off-done, across-done, empty-done}
use Rattle.images.specs.declared.formats.Format.TheVariants.{Bits}
use Rattle.images.specs.Formats.{bytes_of}
use Rattle.images.specs.Stretching.{factor, is_large}
use Rattle.images.proofs.Sides.{Small, small}
use Rattle.job.specs.declared.commands.Command.{Command}
use Rattle.job.specs.declared.commands.Command.TheVariants.{Rectangle, Image, Margin, Flip}
use Rattle.job.specs.Dropping.{put_reason, image_reason, flip_reason, reason_of, height_after}

-- ---- from tests to the number

module _ (W H x y w h fx fy size : ℕ) where
  pub image-large : is_large w h fx fy ≡ true → too_large ≡ image_reason W H x y w h fx fy size
  unfolding image_reason
  image-large l = rw l

  pub image-length : is_large w h fx fy ≡ false → (size ≡ bytes_of Bits w h → ⊥) → wrong_length ≡ image_reason W H x y w h fx fy size
  unfolding image_reason
  image-length l e = rw (l, ne_eqb size (bytes_of Bits w h) e)

  pub image-rest : is_large w h fx fy ≡ false → size ≡ bytes_of Bits w h → put_reason W H x y (w * fx) (h * fy) ≡ image_reason W H x y w h fx fy size
  unfolding image_reason
  image-rest l e = rw (l, eq-eqb size (bytes_of Bits w h) e)

-- the reason of a command, by its kind
module _ (W H : ℕ) {r : ℕ} {d : Command} where
  pub of-rectangle : {x y w h mode : ℕ} {c : RGBA} → d ≡ Rectangle x y w h c mode → r ≡ put_reason W H x y w h → r ≡ reason_of W H d
  unfolding reason_of
  of-rectangle e f = rw e f

  pub of_image : {x y w h sx sy mode start size : ℕ} {c : RGBA} → d ≡ Image x y w h sx sy c mode start size → r ≡ image_reason W H x y w h (factor sx) (factor sy) size → r ≡ reason_of W H d
  unfolding reason_of
  of_image e f = rw e f

  pub of-margin : {m : ℕ} → d ≡ Margin m → r ≡ tall_refusal (H + m) → r ≡ reason_of W H d
  unfolding reason_of
  of-margin e f = rw e f

  pub of-flip : {x y w h : ℕ} → d ≡ Flip x y w h → r ≡ flip_reason W H x y w h → r ≡ reason_of W H d
  unfolding reason_of
  of-flip e f = rw e f

-- the height after a command, by its kind
module _ (H : ℕ) {d : Command} where
  pub after-rectangle : {x y w h mode : ℕ} {c : RGBA} → d ≡ Rectangle x y w h c mode → height_after H d ≡ max H (y + h)
  unfolding height_after
  after-rectangle e = rw e

  pub after-image : {x y w h sx sy mode start size : ℕ} {c : RGBA} → d ≡ Image x y w h sx sy c mode start size → {f : ℕ} → f ≡ factor sy → height_after H d ≡ max H (y + h * f)
  unfolding height_after
  after-image e f = rw (e, f)

  pub after-margin : {m : ℕ} → d ≡ Margin m → height_after H d ≡ H + m
  unfolding height_after
  after-margin e = rw e

  pub after-flip : {x y w h : ℕ} → d ≡ Flip x y w h → height_after H d ≡ max H (y + h)
  unfolding height_after
  after-flip e = rw e

-- ---- what is known of a command that is kept

not-not : (t : Bool) → not t ≡ false → t ≡ true
not-not true e = refl
not-not false e = absurd (true≢false e)

pub record PutKept (W H x y w h : ℕ) : Type 0 where
  pub wide : w ≤ limit
  pub high : h ≤ limit
  pub on : x < W
  pub fits : max H (y + h) ≤ limit

pub put-kept : (W H x y w h : ℕ) → put_reason W H x y w h ≡ done → PutKept W H x y w h
unfolding put_reason
put-kept W H x y w h e =
    let a = first_done _ _ e in
    let b = first_done _ _ a.1 in
    let s = side-done w h a.0 in
    record { wide = s.0; high = s.1; on = off-done W H true x y b.0; fits = tall-done _ b.1 }

pub record ImageKept (W H x y w h fx fy size : ℕ) : Type 0 where
  pub sides : Small w h fx fy
  pub bytes : size ≡ bytes_of Bits w h
  pub put : PutKept W H x y (w * fx) (h * fy)

pub image-kept : (W H x y w h fx fy size : ℕ) → image_reason W H x y w h fx fy size ≡ done → ImageKept W H x y w h fx fy size
unfolding image_reason
image-kept W H x y w h fx fy size e =
    let a = passed_on (is_large w h fx fy) (omega arith) e in
    let b = passed_on (not (eqb size (bytes_of Bits w h))) (omega arith) a.1 in
    record { sides = small w h fx fy a.0; bytes = eqb-true _ _ (not-not _ b.0); put = put-kept W H x y (w * fx) (h * fy) b.1 }

pub record FlipKept (W H x y w h : ℕ) : Type 0 where
  pub wide : 0 < w
  pub high : 0 < h
  pub on : x + w ≤ W
  pub fits : max H (y + h) ≤ limit

pub flip-kept : (W H x y w h : ℕ) → flip_reason W H x y w h ≡ done → FlipKept W H x y w h
unfolding flip_reason
flip-kept W H x y w h e =
    let a = first_done _ _ e in
    let b = first_done _ _ a.1 in
    let s = empty-done w h a.0 in
    record { wide = s.0; high = s.1; on = across-done W x w b.0; fits = tall-done _ b.1 }

-- the same of a command, by its kind
module _ (W H : ℕ) {d : Command} (k : reason_of W H d ≡ done) where
  pub rectangle-kept : {x y w h mode : ℕ} {c : RGBA} → d ≡ Rectangle x y w h c mode → PutKept W H x y w h
  unfolding reason_of
  rectangle-kept e = put-kept W H _ _ _ _ (rw e at k)

  pub stretched-kept : {x y w h sx sy mode start size : ℕ} {c : RGBA} → d ≡ Image x y w h sx sy c mode start size → ImageKept W H x y w h (factor sx) (factor sy) size
  unfolding reason_of
  stretched-kept e = image-kept W H _ _ _ _ _ _ _ (rw e at k)

  pub margin-kept : {m : ℕ} → d ≡ Margin m → H + m ≤ limit
  unfolding reason_of
  margin-kept e = tall-done _ (rw e at k)

  pub mirrored-kept : {x y w h : ℕ} → d ≡ Flip x y w h → FlipKept W H x y w h
  unfolding reason_of
  mirrored-kept e = flip-kept W H _ _ _ _ (rw e at k)

-- a command that is kept leaves a height within the limit
pub after-fits : (W H : ℕ) (c : Command) → reason_of W H c ≡ done → height_after H c ≤ limit
unfolding height_after
after-fits W H (Rectangle x y w h c mode) k = (rectangle-kept W H k refl).fits
after-fits W H (Image x y w h sx sy c mode start size) k = (stretched-kept W H k refl).put.fits
after-fits W H (Margin m) k = margin-kept W H k refl
after-fits W H (Flip x y w h) k = (mirrored-kept W H k refl).fits
