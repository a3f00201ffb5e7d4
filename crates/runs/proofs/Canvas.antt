-- What the steps of a run make of a canvas that shows a picture: it shows the picture after the command. Assumes nothing.
use Prim.Native.Nat.{ℕ, ◌+◌, ◌*◌, ◌-◌, ◌≤◌, ◌<◌, max}
use mathlib.Core.Path.{◌≡◌, refl, ap, sym, ◌∙◌}
use mathlib.Core.Logic.{◌⊎◌, inl, inr}
use mathlib.Core.List.{List}
use mathlib.Core.Bool.{Bool, true, false, true≢false}
use native.Mathlib.Nat.{mul-le-mul_left, mul-le-mul_right, mul-add, add-mul, mul_comm}
use native.Mathlib.Omega.{arith}
use borrow.Author.Tests.{lt-ltb, le-ltb}
use lib.Dec.{ltb}
use lib.ListN.{length}
use Rattle.numbers.specs.Numbers.{done}
use Rattle.std.specs.Prelude.{if◌then◌else◌}
use Rattle.colour.specs.declared.RGBA.{RGBA}
use Rattle.colour.specs.Colour.{blended}
use Rattle.dots.specs.Dots.{dot_at}
use Rattle.dots.proofs.Laws.{below}
use Rattle.images.specs.Stretching.{factor}
use Rattle.areas.specs.Areas.{in_area, flipped_on}
use Rattle.areas.proofs.Laws.{in-area, in-area-true, not-in-area, length-area, area-dot, area-past}
use Rattle.moves.specs.Moves.{lowered_on}
use Rattle.moves.proofs.Laws.{length-lowered, lowered-paper, lowered-dot, lowered-past}
use Rattle.job.specs.declared.commands.Command.{Command}
use Rattle.job.specs.declared.commands.Command.TheVariants.{Rectangle, Image, Margin, Flip}
use Rattle.job.specs.Dropping.{reason_of, height_after}
use Rattle.entries.specs.declared.Entry.{Entry}
use Rattle.entries.specs.Entries.{rectangle_entry, image_entry, entry_on}
use Rattle.entries.specs.Steps.{entry_rows}
use Rattle.thermal_image.specs.Canvas.{papered}
use Rattle.thermal_image.proofs.Paper.{length-papered, papered-kept, papered-past, papered-new}
use Rattle.runs.specs.Pictures.{Picture, with_image, with_margin, with_mirror, after, shown}
use Rattle.runs.specs.Steps.{placed_on, obeyed_on}
use Rattle.runs.proofs.Pictures.{rectangle-after, image-after, dot_before, dot-from, length-shown, shown-past, shown-dot, shown-ext}

-- a picture is paper from row H on
abbrev pub Bare : RGBA → ℕ → Picture → Type 0
Bare paper H p = (i j : ℕ) → H ≤ j → p i j ≡ paper

module _ (W : ℕ) (some : 0 < W) (l : List ℕ) where
  -- pictures that are the same on the paper
  pub shown-same : (H : ℕ) → W * H * 4 ≤ length l → (p q : Picture) → ((i j : ℕ) → i < W → p i j ≡ q i j) → shown W H p l ≡ shown W H q l
  shown-same H r p q e =
      shown-ext W H q l r (shown W H p l) some (length-shown W H p l) (λ i j a b. shown-dot W H p l r i j a b ∙ e i j a) (shown-past W H p l)

  -- growing shows more of the paper
  pub shown-grown : (paper : RGBA) (p : Picture) (H H' : ℕ) → Bare paper H p → H ≤ H' → W * H' * 4 ≤ length l → papered W H H' paper (shown W H p l) ≡ shown W H' p l
  shown-grown paper p H H' bare h r =
      let m = mul-le-mul_left W h in
      shown-ext W H' p l r _ some (length-papered W H H' paper _ ∙ length-shown W H p l) (λ i j a b. at i j a b (below j H))
      (λ k c. papered-past W H H' paper _ k c ∙ shown-past W H p l k (omega arith))
    where
      at : (i j : ℕ) → i < W → j < H' → (j < H) ⊎ (H ≤ j) → dot_at (papered W H H' paper (shown W H p l)) (j * W + i) ≡ p i j
      at i j a b (inl c) =
          let k = dot_before {H = H} a c in
          papered-kept W H H' paper _ (j * W + i) k ∙ shown-dot W H p l (omega (arith, mul-le-mul_left W h)) i j a c
      at i j a b (inr c) =
          let k = dot_before {H = H'} a b in
          papered-new W H H' paper _ (j * W + i) (dot-from W i c) k (omega (arith, length-shown W H p l)) ∙ sym (bare i j c)

  module _ (H : ℕ) (p : Picture) (r : W * H * 4 ≤ length l) where
    room : {i j : ℕ} → i < W → j < H → (j * W + i) * 4 + 4 ≤ length (shown W H p l)
    room a b = omega (arith, dot_before {H = H} a b, length-shown W H p l)

    -- an entry drawn on its own rows
    pub shown-entry : (s : List ℕ) (e : Entry) → e.y + e.h ≤ H → entry_rows s e W e.y e.y e.h (shown W H p l) ≡ shown W H (λ i j. entry_on s e i j (p i j)) l
    unfolding entry_rows
    shown-entry s e b =
        shown-ext W H _ l r _ some (length-area _ _ _ _ _ _ _ ∙ length-shown W H p l)
        (λ i j u v. area-dot _ _ _ _ _ _ _ i j u (room u v) ∙ rw (shown-dot W H p l r i j u v) (at i j u (in_area 0 e.y W e.h i j) refl))
        (λ k c. area-past _ _ _ _ _ _ _ k some (omega (arith, mul-le-mul_right W b, mul_comm W H)) ∙ shown-past W H p l k c)
      where
        at : (i j : ℕ) → i < W → (t : Bool) → in_area 0 e.y W e.h i j ≡ t
            → (if t then entry_on s e (i - 0) (e.y + (j - e.y)) (p i j) else p i j) ≡ entry_on s e i j (p i j)
        at i j u true q =
            let f = in-area-true 0 e.y W e.h i j q in
            let z : i - 0 ≡ i = omega arith in
            let d : e.y + (j - e.y) ≡ j = omega (arith, f.2) in
            rw (z, d) refl
        at i j u false q = sym (unfold entry_on in (rw (out i j u q) refl))
          where
            out : (i j : ℕ) → i < W → in_area 0 e.y W e.h i j ≡ false → in_area e.x e.y e.w e.h i j ≡ false
            out i j u q = not-in-area _ _ _ _ i j (λ a b c d. true≢false (sym (in-area 0 e.y W e.h i j (omega arith) (omega arith) c d) ∙ q))

    -- a margin
    pub shown-lowered : (paper : RGBA) (m : ℕ) → W * (H + m) * 4 ≤ length l → lowered_on (W * H) (W * m) paper (shown W H p l) ≡ shown W (H + m) (with_margin paper m p) l
    unfolding with_margin
    shown-lowered paper m g =
        let n = mul-add W H m in
        shown-ext W (H + m) _ l g _ some (length-lowered _ _ _ _ ∙ length-shown W H p l) (λ i j u v. at i j u v (below j m))
        (λ k c. lowered-past _ _ _ _ k (omega arith) ∙ shown-past W H p l k (omega arith))
      where
        at : (i j : ℕ) → i < W → j < H + m → (j < m) ⊎ (m ≤ j) → dot_at (lowered_on (W * H) (W * m) paper (shown W H p l)) (j * W + i) ≡ (if ltb j m then paper else p i (j - m))
        at i j u v (inl a) =
            rw (lt-ltb j m a)
            (lowered-paper _ _ _ _ (j * W + i) (dot_before {H = m} u a) (omega (arith, dot_before {H = H + m} u v, length-shown W H p l)))
        at i j u v (inr a) =
            let k : j * W + i - W * m ≡ (j - m) * W + i = let d : j - m + m ≡ j = omega arith in omega (arith, add-mul (j - m) m W, ap (λ (k : ℕ). k * W) d, mul_comm W m) in
            rw (le-ltb j m a)
            (lowered-dot _ _ _ _ (j * W + i) (dot-from W i a) (omega (arith, dot_before {H = H + m} u v, mul-add W H m)) (omega (arith, dot_before {H = H + m} u v, length-shown W H p l))
            ∙ rw k (shown-dot W H p l r i (j - m) u (omega arith)))

    -- a flip
    pub shown-flipped : (x y w h : ℕ) → y + h ≤ H → flipped_on W x y w h (shown W H p l) ≡ shown W H (with_mirror x y w h p) l
    unfolding flipped_on with_mirror
    shown-flipped x y w h b =
        shown-ext W H _ l r _ some (length-area _ _ _ _ _ _ _ ∙ length-shown W H p l)
        (λ i j u v. area-dot _ _ _ _ _ _ _ i j u (room u v) ∙ rw (shown-dot W H p l r i j u v) (at i j u (in_area x y w h i j) refl))
        (λ k c. area-past _ _ _ _ _ _ _ k some (omega (arith, mul-le-mul_right W b, mul_comm W H)) ∙ shown-past W H p l k c)
      where
        at : (i j : ℕ) → i < W → (t : Bool) → in_area x y w h i j ≡ t
            → (if t then blended (dot_at (shown W H p l) ((y + (h - 1 - (j - y))) * W + (x + (i - x)))) (p i j) else p i j)
            ≡ (if t then blended (p i (y + (h - 1 - (j - y)))) (p i j) else p i j)
        at i j u true q =
            let f = in-area-true x y w h i j q in
            let d : x + (i - x) ≡ i = omega (arith, f.0) in
            ap (λ (c : RGBA). blended c (p i j))
            (ap (λ (k : ℕ). dot_at (shown W H p l) ((y + (h - 1 - (j - y))) * W + k)) d ∙ shown-dot W H p l r i (y + (h - 1 - (j - y))) u (omega (arith, f.2, f.3)))
        at i j u false q = refl

-- ---- a command obeyed on a canvas that shows p: it shows the picture after it, which is paper below the new height

pub record Obeyed (s : List ℕ) (W : ℕ) (paper : RGBA) (H : ℕ) (p : Picture) (l : List ℕ) (c : Command) : Type 0 where
  pub bytes : obeyed_on s W paper H c (shown W H p l) ≡ shown W (height_after H c) (after s paper c p) l
  pub bare : Bare paper (height_after H c) (after s paper c p)

module _ (s : List ℕ) (W : ℕ) (some : 0 < W) (paper : RGBA) (H : ℕ) (p : Picture) (l : List ℕ) (bare : Bare paper H p) where
  -- an entry that does to each dot on the paper what the command does
  placed : (e : Entry) (q : Picture) → ((i j : ℕ) → i < W → q i j ≡ entry_on s e i j (p i j)) → W * max H (e.y + e.h) * 4 ≤ length l
      → placed_on s W paper H e (shown W H p l) ≡ shown W (max H (e.y + e.h)) q l
  unfolding placed_on
  placed e q f r =
      let H' : ℕ = max H (e.y + e.h) in
      ap (entry_rows s e W e.y e.y e.h) (shown-grown W some l paper p H H' bare (omega arith) r)
      ∙ shown-entry W some l H' p r s e (omega arith)
      ∙ shown-same W some l H' r _ q (λ i j a. sym (f i j a))

  below-image : (x y w h mode H' : ℕ) (pixel : Picture) → H ≤ H' → y + h ≤ H' → Bare paper H' (with_image x y w h mode pixel p)
  unfolding with_image
  below-image x y w h mode H' pixel a b i j c = rw (not-in-area x y w h i j (λ _ _ _ d. omega arith)) (bare i j (omega arith))

  pub obeyed : (c : Command) → reason_of W H c ≡ done → W * height_after H c * 4 ≤ length l → Obeyed s W paper H p l c
  unfolding obeyed_on height_after
  obeyed (Rectangle x y w h c mode) k r =
      record {
        bytes = unfold rectangle_entry in (placed (rectangle_entry W x y w h c mode) _ (λ i j a. rectangle-after s paper W p i j a x y w h c mode) r);
        bare = unfold after in (below-image x y w h mode (max H (y + h)) _ (omega arith) (omega arith));
      }
  obeyed (Image x y w h sx sy c mode start size) k r =
      record {
        bytes = unfold image_entry in (placed (image_entry W x y w h (factor sx) (factor sy) c mode start) _ (λ i j a. image-after s paper W p i j a x y w h sx sy c mode start size) r);
        bare = unfold after in (below-image x y (w * factor sx) (h * factor sy) mode (max H (y + h * factor sy)) _ (omega arith) (omega arith));
      }
  obeyed (Margin m) k r =
      record {
        bytes = unfold after in (shown-lowered W some l H p (omega (arith, mul-add W H m)) paper m r);
        bare = unfold after in (unfold with_margin in (λ i j a. rw (le-ltb j m (omega arith)) (bare i (j - m) (omega arith))));
      }
  obeyed (Flip x y w h) k r =
      let H' : ℕ = max H (y + h) in
      record {
        bytes = unfold after in (ap (flipped_on W x y w h) (shown-grown W some l paper p H H' bare (omega arith) r) ∙ shown-flipped W some l H' p r x y w h (omega arith));
        bare = unfold after in (unfold with_mirror in (λ i j a. rw (not-in-area x y w h i j (λ _ _ _ d. omega arith)) (bare i j (omega arith))));
      }
