-- The entry's part of the rows that stand in a buffer, as an area of it. Assumes nothing.
use Rattle.std.proofs.Common.{◌≡◌, refl, sym, ◌∙◌, inr, Bool, true, false, ◌&&◌, List, ℕ, ◌+◌, ◌-◌, ◌/◌, ◌%◌, ◌≤◌, ◌<◌, min, max, mod-lt, mul-le-mul_right, arith, leb, eqb, leb-true, eq-eqb, ne_eqb, if◌then◌else◌}
use mathlib.Core.Bool.{and-false}
use native.Mathlib.Nat.{sub-zero}
use Rattle.colour.specs.declared.RGBA.{RGBA}
use Rattle.colour.proofs.Tests.{and_both}
use Rattle.dots.specs.Dots.{dot_at, within, drawn}
use Rattle.dots.proofs.Laws.{change-same, Place, before, inside, past, place, within-yes, within_low, within-high, within-true}
use Rattle.areas.specs.Areas.{Fits, in_area, area_on}
use Rattle.areas.proofs.Laws.{area-none, area-by}
use Rattle.job.specs.Commands.{rectangle_kind, image_kind, sound_mode, multiplies}
use Rattle.entries.specs.declared.Entry.{Entry}
use Rattle.entries.specs.Entries.{good_image, good_kind, good_entry, image_pixel, entry_pixel, entry_on}
use Rattle.entries.specs.Steps.{own_row, entry_rows, Placed}

-- ---- what the rules come to

pub record Rules (W H n : ℕ) (e : Entry) : Type 0 where
  pub across : e.x + e.w ≤ W
  pub down : e.y + e.h ≤ H
  pub kind : good_kind n e ≡ true

pub entry-rules : (W H n : ℕ) (e : Entry) → good_entry W H n e ≡ true → Rules W H n e
unfolding good_entry
entry-rules W H n e h =
    let a = and_both _ _ h in
    let b = and_both _ _ a.0 in
    record { across = leb-true _ _ (and_both (sound_mode e.mode) (leb (e.x + e.w) W) b.0).1; down = leb-true _ _ b.1; kind = a.1 }

pub image-kind : (n : ℕ) (e : Entry) → good_kind n e ≡ true → (e.kind ≡ rectangle_kind → ⊥) → good_image n e ≡ true
unfolding good_kind
image-kind n e h k = (and_both (eqb e.kind image_kind) (good_image n e) (rw (ne_eqb e.kind rectangle_kind k) at h)).1

-- ---- rows of the picture and rows of the buffer

module _ (y h top from rows : ℕ) {first last : ℕ} (ef : first ≡ max from y) (el : last ≡ min (from + rows) (y + h)) (r : ℕ) where
  abbrev row : ℕ
  row = top + (first - from)

  -- a row that stands in the buffer
  rows_same : top ≤ r → r < top + rows → within row (row + (last - first)) r ≡ within y (y + h) (from + (r - top))
  rows_same u v = by (place row (row + (last - first)) r)
    where
      by : Place row (row + (last - first)) r → within row (row + (last - first)) r ≡ within y (y + h) (from + (r - top))
      by (before a) = within_low _ _ _ a ∙ sym (within_low _ _ _ (omega arith))
      by (inside a b) = within-yes _ _ _ a b ∙ sym (within-yes _ _ _ (omega arith) (omega arith))
      by (past a b) = within-high _ _ _ b ∙ sym (within-high _ _ _ (omega arith))

  -- and one that does not
  rows-low : r < top → within row (row + (last - first)) r ≡ false
  rows-low u = within_low _ _ _ (omega arith)

  rows-high : top + rows ≤ r → within row (row + (last - first)) r ≡ false
  rows-high u = by (place row (row + (last - first)) r)
    where
      by : Place row (row + (last - first)) r → within row (row + (last - first)) r ≡ false
      by (before a) = within_low _ _ _ a
      by (inside a b) = absurd (omega arith)
      by (past a b) = within-high _ _ _ b

-- the entry's own row, by the first that stands in the buffer or by the picture's
own-row : (y from top r first : ℕ) → y ≤ first → from ≤ first → top ≤ r → first ≤ from + (r - top) → first - y + (r - (top + (first - from))) ≡ from + (r - top) - y
own-row y from top r first a b c d = omega arith

module _ (s : List ℕ) (e : Entry) (W top from rows : ℕ) (l : List ℕ) {first last : ℕ} (ef : first ≡ max from e.y) (el : last ≡ min (from + rows) (e.y + e.h)) where
  -- a pixel of the entry drawn, by its own column and row from the first that stands in the buffer
  abbrev part : ℕ → ℕ → RGBA → RGBA
  part = own_row s e (first - e.y)

  pub entry-rows : 0 < W → {m : List ℕ} → m ≡ area_on W e.x (top + (first - from)) e.w (last - first) part l → m ≡ entry_rows s e W top from rows l
  unfolding entry_rows area_on in_area entry_on
  entry-rows w em = em ∙ change-same _ _ _ _ l (λ k b. one k (k / W) (place top (top + rows) (k / W)))
    where
      here : (k r : ℕ) → top ≤ r → r < top + rows → (t : Bool) → within e.y (e.y + e.h) (from + (r - top)) ≡ t
          → (if within e.x (e.x + e.w) (k % W) && t then part (k % W - e.x) (r - (top + (first - from))) (dot_at l k) else dot_at l k)
          ≡ (if within e.x (e.x + e.w) (k % W) && t
          then drawn (multiplies e.mode) (entry_pixel s e (k % W - e.x) (from + (r - top) - e.y)) (dot_at l k) else dot_at l k)
      here k r u v false q = rw (and-false)
      here k r u v true q =
          let z = within-true _ _ _ q in
          let from_first : first ≤ from + (r - top) = omega (arith, z.0) in
          rw (own-row e.y from top r first (omega arith) (omega arith) u from_first)

      one : (k r : ℕ) → Place top (top + rows) r
          → (if within e.x (e.x + e.w) (k % W) && within (top + (first - from)) (top + (first - from) + (last - first)) r
          then part (k % W - e.x) (r - (top + (first - from))) (dot_at l k) else dot_at l k)
          ≡ (if within 0 (0 + W) (k % W) && within top (top + rows) r then entry_on s e (k % W - 0) (from + (r - top)) (dot_at l k) else dot_at l k)
      one k r (before u) =
          rw (rows-low e.y e.h top from rows ef el r u, within_low top (top + rows) r u, and-false, and-false)
      one k r (past u v) =
          rw (rows-high e.y e.h top from rows ef el r v, within-high top (top + rows) r v, and-false, and-false)
      one k r (inside u v) =
          rw (
            sub-zero,
            rows_same e.y e.h top from rows ef el r u v,
            within-yes 0 (0 + W) (k % W) (omega arith) (omega (arith, mod-lt k w)),
            within-yes top (top + rows) r u v,
          )
          (here k r u v (within e.y (e.y + e.h) (from + (r - top))) refl)

  -- no row of the entry stands in the buffer
  pub entry-none : 0 < W → last ≤ first → l ≡ entry_rows s e W top from rows l
  entry-none w h =
      let z : last - first ≡ 0 = omega arith in
      entry-rows w (rw z (area-none W e.x (top + (first - from)) e.w 0 part l (inr refl)))

  pub part-fits : {n : ℕ} → Placed W top from rows n → e.x + e.w ≤ W → first < last → Fits W e.x (top + (first - from)) e.w (last - first) n
  part-fits p a h =
      record { some = p.some; across = a; down = omega (arith, p.room, mul-le-mul_right W (below p h)) }
    where
      below : {n : ℕ} → Placed W top from rows n → first < last → top + (first - from) + (last - first) ≤ top + rows
      below p h = omega arith

-- ---- the entry's own rows of a rectangle, and of an image

module _ (s : List ℕ) (e : Entry) (own W x y w h : ℕ) (l : List ℕ) {m : List ℕ} where
  pub own-rectangle : e.kind ≡ rectangle_kind → m ≡ area_on W x y w h (λ _ _ d. drawn (multiplies e.mode) e.color d) l → m ≡ area_on W x y w h (own_row s e own) l
  unfolding entry_pixel
  own-rectangle k em = em ∙ area-by _ _ _ _ _ _ l _ (λ i j u v. rw (eq-eqb e.kind rectangle_kind k))

  pub own-image : (e.kind ≡ rectangle_kind → ⊥) → m ≡ area_on W x y w h (λ i j d. drawn (multiplies e.mode) (image_pixel s e i (own + j)) d) l
      → m ≡ area_on W x y w h (own_row s e own) l
  unfolding entry_pixel
  own-image k em = em ∙ area-by _ _ _ _ _ _ l _ (λ i j u v. rw (ne_eqb e.kind rectangle_kind k))
