-- Stretch factors, and sides within the limit. Assumes nothing.
use mathlib.Core.Path.{◌≡◌, refl}
use mathlib.Core.Bool.{Bool, true, false, ◌||◌}
use Prim.Native.Nat.{ℕ, ◌*◌, ◌≤◌, ◌<◌, max}
use Rattle.std.specs.Prelude.{if◌then◌else◌}
use native.Mathlib.Nat.{le_trans, le-mul_of_pos_right}
use native.Mathlib.Omega.{arith}
use lib.Dec.{ltb, eqb}
use borrow.Author.Tests.{ltb-false, eqb-true, eqb-false}
use Rattle.numbers.specs.Numbers.{limit}
use Rattle.colour.proofs.Tests.{neither}
use Rattle.images.specs.declared.scale.Source.{Source}
use Rattle.images.specs.Stretching.{factor, is_large}
use Rattle.images.specs.Steps.{Sound}

-- ---- a stretch factor

pub factor-range : {r : ℕ} (n : ℕ) → r ≡ factor n → n ≤ 255 → (0 < r) × (r ≤ 255)
unfolding factor
factor-range {r} n e h = rw e (go (eqb n 0) refl)
  where
    go : (t : Bool) → eqb n 0 ≡ t → (0 < factor n) × (factor n ≤ 255)
    go true e = rw e (omega arith)
    go false e = rw e (omega (arith, eqb-false n 0 e))

pub factor-max : (n : ℕ) → max n 1 ≡ factor n
unfolding factor
factor-max n = go (eqb n 0) refl
  where
    go : (t : Bool) → eqb n 0 ≡ t → max n 1 ≡ (if t then 1 else n)
    go true e = omega (arith, eqb-true n 0 e)
    go false e = omega (arith, eqb-false n 0 e)

-- ---- sides within the limit

pub record Small (w h fx fy : ℕ) : Type 0 where
  pub width : w ≤ limit
  pub height : h ≤ limit
  pub wide : w * fx ≤ limit
  pub tall : h * fy ≤ limit

pub small : (w h fx fy : ℕ) → is_large w h fx fy ≡ false → Small w h fx fy
unfolding is_large
small w h fx fy e =
    let a = neither (ltb limit w || ltb limit h || ltb limit (w * fx)) (ltb limit (h * fy)) e in
    let b = neither (ltb limit w || ltb limit h) (ltb limit (w * fx)) a.0 in
    let c = neither (ltb limit w) (ltb limit h) b.0 in
    record { width = ltb-false _ _ c.0; height = ltb-false _ _ c.1; wide = ltb-false _ _ b.1; tall = ltb-false _ _ a.1 }

-- the sides of a sound source
pub sides : (s : Source) {n : ℕ} → Sound s n → (s.w ≤ limit) × (s.h ≤ limit)
sides s o = (le_trans (le-mul_of_pos_right s.w o.fx) o.wide, le_trans (le-mul_of_pos_right s.h o.fy) o.tall)
