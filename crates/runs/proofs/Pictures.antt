-- Laws of pictures: a put is its entry applied to each dot of the paper, and what a canvas shows of a picture. Assumes nothing.
use Prim.Native.Nat.{ℕ, ◌+◌, ◌*◌, ◌-◌, ◌/◌, ◌%◌, ◌≤◌, ◌<◌, min}
use mathlib.Core.Path.{◌≡◌, refl, ap, sym, ◌∙◌}
use mathlib.Core.Logic.{◌⊎◌, inl, inr}
use mathlib.Core.List.{List}
use mathlib.Core.Bool.{Bool, ◌&&◌}
use native.Mathlib.Nat.{mod-lt, div-add-mod', div-lt_iff_lt-mul, mul-le-mul_right, mul_comm, add-mul}
use native.Mathlib.Omega.{arith}
use lib.ListN.{length}
use Rattle.std.specs.Prelude.{if◌then◌else◌}
use Rattle.colour.specs.declared.RGBA.{RGBA}
use Rattle.dots.specs.Dots.{dot_at, within}
use Rattle.dots.proofs.Laws.{Place, before, inside, past, place, below, within-yes, within_low, within-high, length-change, change-ext, change-picked, change-kept}
use Rattle.areas.proofs.Laws.{at-column}
use Rattle.images.specs.Stretching.{factor}
use Rattle.areas.specs.Areas.{in_area}
use Rattle.job.specs.declared.commands.Command.TheVariants.{Rectangle, Image}
use Rattle.entries.specs.Entries.{rectangle_entry, image_entry, image_pixel, entry_pixel, entry_on}
use Rattle.runs.specs.Pictures.{Picture, with_image, after, shown}

-- ---- a put on paper W wide

-- an area cropped at the paper's edge, for a column on the paper
pub area-cropped : (W x y w h i j : ℕ) → i < W → in_area x y (min w (W - x)) h i j ≡ in_area x y w h i j
unfolding in_area
area-cropped W x y w h i j a = ap (λ (t : Bool). t && within y (y + h) j) (across (place x (x + w) i))
  where
    across : Place x (x + w) i → within x (x + min w (W - x)) i ≡ within x (x + w) i
    across (before b) = within_low _ _ _ b ∙ sym (within_low _ _ _ b)
    across (inside b c) = within-yes _ _ _ b (omega arith) ∙ sym (within-yes _ _ _ b c)
    across (past b c) = within-high _ _ _ (omega arith) ∙ sym (within-high _ _ _ c)

module _ (s : List ℕ) (paper : RGBA) (W : ℕ) (p : Picture) (i j : ℕ) (a : i < W) where
  pub rectangle-after : (x y w h : ℕ) (c : RGBA) (mode : ℕ) → after s paper (Rectangle x y w h c mode) p i j ≡ entry_on s (rectangle_entry W x y w h c mode) i j (p i j)
  unfolding after with_image entry_on entry_pixel rectangle_entry
  rectangle-after x y w h c mode = rw (area-cropped W x y w h i j a) refl

  pub image-after : (x y w h sx sy : ℕ) (c : RGBA) (mode start size : ℕ)
      → after s paper (Image x y w h sx sy c mode start size) p i j ≡ entry_on s (image_entry W x y w h (factor sx) (factor sy) c mode start) i j (p i j)
  unfolding after with_image entry_on entry_pixel image_pixel image_entry
  image-after x y w h sx sy c mode start size = rw (area-cropped W x y (w * factor sx) (h * factor sy) i j a) refl

-- ---- what a canvas W dots wide shows of a picture

-- the dot in column i of row j lies before row H, or not
pub dot_before : {W i j H : ℕ} → i < W → j < H → j * W + i < W * H
dot_before {W} {i} {j} {H} a b = omega (arith, mul-le-mul_right W b, add-mul j 1 W, mul_comm H W)

pub dot-from : (W i : ℕ) {j H : ℕ} → H ≤ j → W * H ≤ j * W + i
dot-from W i {j} {H} b = omega (arith, mul-le-mul_right W b, mul_comm H W)

module _ (W H : ℕ) (p : Picture) (l : List ℕ) where
  pub length-shown : length (shown W H p l) ≡ length l
  unfolding shown
  length-shown = length-change _ _ l

  pub shown-past : (k : ℕ) → W * H ≤ k → dot_at (shown W H p l) k ≡ dot_at l k
  unfolding shown
  shown-past k h = change-kept _ _ l k (within-high 0 (W * H) k h)

  module _ (room : W * H * 4 ≤ length l) where
    pub shown-dot : (i j : ℕ) → i < W → j < H → dot_at (shown W H p l) (j * W + i) ≡ p i j
    unfolding shown
    shown-dot i j a b =
        let k = dot_before {H = H} a b in
        let c = at-column W i j a in
        change-picked _ _ l (j * W + i) (within-yes 0 (W * H) (j * W + i) (omega arith) k) (omega arith) ∙ rw (c.0, c.1) refl

    -- a buffer with these dots shows the picture
    pub shown-ext : (m : List ℕ) → 0 < W → length m ≡ length l → ((i j : ℕ) → i < W → j < H → dot_at m (j * W + i) ≡ p i j)
        → ((k : ℕ) → W * H ≤ k → dot_at m k ≡ dot_at l k) → m ≡ shown W H p l
    unfolding shown
    shown-ext m some e dots rest =
        change-ext _ _ l m e (λ k b. at k (below k (W * H))) (λ k b. rest k (omega arith))
      where
        at : (k : ℕ) → (k < W * H) ⊎ (W * H ≤ k) → dot_at m k ≡ (if within 0 (W * H) k then p (k % W) (k / W) else dot_at l k)
        at k (inl a) =
            let q : k / W * W + k % W ≡ k = div-add-mod' k W in
            rw (within-yes 0 (W * H) k (omega arith) a)
            (ap (dot_at m) (sym q) ∙ dots (k % W) (k / W) (mod-lt k some) ((div-lt_iff_lt-mul some).1 (omega (arith, mul_comm W H))))
        at k (inr a) = rw (within-high 0 (W * H) k a) (rest k a)
