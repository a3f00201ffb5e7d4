-- What growing and a margin come to: the height, and the dot at (x, y). Assumes nothing.
use mathlib.Core.Path.{◌≡◌, refl, ap, ◌∙◌}
use mathlib.Core.Bool.{Bool, true, false}
use mathlib.Core.List.{List}
use Prim.Native.Nat.{ℕ, ◌+◌, ◌*◌, ◌≤◌, ◌<◌, max}
use native.Mathlib.Nat.{mul_comm, mul-add, add-mul}
use native.Mathlib.Omega.{arith}
use lib.ListN.{length}
use lib.Dec.{eqb}
use Rattle.numbers.specs.Numbers.{done}
use Rattle.std.specs.Prelude.{if◌then◌else◌}
use Rattle.dots.specs.Dots.{dot_at}
use Rattle.moves.specs.Moves.{lowered_on}
use Rattle.moves.proofs.Laws.{lowered-paper, lowered-dot}
use Rattle.moves.proofs.Turns.{in-picture}
use Rattle.thermal_image.specs.declared.ThermalImage.{ThermalImage}
use Rattle.thermal_image.specs.Canvas.{sized, finished, answered, written, papered, grown, grown_on, margined, margined_on}
use Rattle.refusals.specs.Refusals.{grow_refusal, margin_refusal}
use Rattle.refusals.proofs.Codes.{rows-some, grow-done, margin-done}
use Rattle.thermal_image.proofs.Paper.{more_rows, papered-kept, papered-new}

module _ (t : ThermalImage) where
  abbrev pub at : ℕ → ℕ → ℕ
  at x y = y * t.width + x

  -- dot (x, y) lies among the first h rows
  pub within-rows : (x y h : ℕ) → x < t.width → y < h → at x y < t.width * h
  within-rows x y h a b = omega (arith, in-picture t.width h x y a b, mul_comm t.width h)

  -- ---- growing

  pub grown-height : (height n : ℕ) → grow_refusal t.width t.height height n ≡ done → 0 < t.width → (grown t height n).image.height ≡ max t.height height
  unfolding grown answered
  grown-height height n e h = rw (e, rows-some t.width (max t.height height) h)

  -- a dot that was there stays, also where growing is refused
  pub grown-kept : (height x y : ℕ) (l : List ℕ) → x < t.width → y < t.height → dot_at (grown_on t height l) (at x y) ≡ dot_at l (at x y)
  unfolding grown_on written
  grown-kept height x y l a b = go (eqb (grow_refusal t.width t.height height (length l)) done)
    where
      go : (d : Bool) → dot_at (if d then papered t.width t.height (max t.height height) t.paper_color l else l) (at x y) ≡ dot_at l (at x y)
      go true = papered-kept _ _ _ _ l (at x y) (within-rows x y t.height a b)
      go false = refl

  -- a new dot is paper
  pub grown-paper : (height x y : ℕ) (l : List ℕ) → grow_refusal t.width t.height height (length l) ≡ done → x < t.width → t.height ≤ y → y < height
      → dot_at (grown_on t height l) (at x y) ≡ t.paper_color
  unfolding grown_on written
  grown-paper height x y l e a b c =
      let f = grow-done t.width t.height height (length l) e in
      let i = within-rows x y (max t.height height) a (omega arith) in
      rw e (papered-new _ _ _ _ l (at x y) (omega (arith, more_rows t.width b, mul_comm t.width y)) i (omega (arith, f.room)))

  -- ---- a margin

  pub margin-record : (rows n : ℕ) → margin_refusal t.width t.height rows n ≡ done → 0 < t.width → margined t rows n ≡ finished (sized t t.width (t.height + rows))
  unfolding margined answered
  margin-record rows n e h = rw (e, rows-some t.width (t.height + rows) h) refl

  pub margin-lowered : (rows : ℕ) (l : List ℕ) → margin_refusal t.width t.height rows (length l) ≡ done
      → margined_on t rows l ≡ lowered_on (t.width * t.height) (t.width * rows) t.paper_color l
  unfolding margined_on written
  margin-lowered rows l e = rw e

  module _ (rows x y : ℕ) (l : List ℕ) (e : margin_refusal t.width t.height rows (length l) ≡ done) (a : x < t.width) where
    -- a dot of the margin is paper
    pub margin-paper : y < rows → dot_at (margined_on t rows l) (at x y) ≡ t.paper_color
    margin-paper b =
        let f = margin-done t.width t.height rows (length l) e in
        let i = within-rows x y rows a b in
        rw (margin-lowered rows l e) (lowered-paper _ _ _ l (at x y) i (omega (arith, f.room, mul-add t.width t.height rows)))

    -- a dot that was there is `rows` rows lower
    pub margin-moved : y < t.height → dot_at (margined_on t rows l) (at x (rows + y)) ≡ dot_at l (at x y)
    margin-moved b =
        let f = margin-done t.width t.height rows (length l) e in
        let i = within-rows x y t.height a b in
        let s = add-mul rows y t.width in
        let m = mul_comm rows t.width in
        rw (margin-lowered rows l e) (
        lowered-dot _ _ _ l (at x (rows + y)) (omega arith) (omega arith) (omega (arith, f.room, mul-add t.width t.height rows)) ∙ ap (dot_at l) (omega arith)
        )
