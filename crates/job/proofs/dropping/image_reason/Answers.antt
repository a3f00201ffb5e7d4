-- `job::dropping::image_reason` meets its contract. Assumes nothing.
use mathlib.Core.Path.{◌≡◌, sym, ◌∙◌}
use mathlib.Core.Bool.{false}
use Prim.Native.Nat.{◌≤◌, ◌<◌}
use native.Mathlib.Omega.{arith}
use Rattle.images.specs.Stretching.{is_large}
use Rattle.images.proofs.Sides.{Small, small, factor-range}
use Rattle.job.proofs.Reasons.{image-large, image-length, image-rest}
use Rattle.job.proofs.dropping.image_reason.Goals as goal
use Rattle.job.proofs.dropping.image_reason.Goals.{After-factor_of-fx, After-factor_of-fy, Else-is_large}

range : (c : After-factor_of-fx) → (0 < c.factor_of-fx.result) × (c.factor_of-fx.result ≤ 255)
range c = factor-range _ c.factor_of-fx.ensures (omega arith)

range-2 : (c : After-factor_of-fy) → (0 < c.factor_of-fy.result) × (c.factor_of-fy.result ≤ 255)
range-2 c = factor-range _ c.factor_of-fy.ensures (omega arith)

not-large : (c : Else-is_large) → let p = c.args in is_large p.w p.h c.factor_of-fx.result c.factor_of-fy.result ≡ false
not-large c = sym c.is_large.ensures ∙ c.if-is_large.false

sides : (c : Else-is_large) → let p = c.args in Small p.w p.h c.factor_of-fx.result c.factor_of-fy.result
sides c = small _ _ _ _ (not-large c)

pub is_large-requires : goal.is_large-requires
is_large-requires c = ((range (goal.at.is_large-requires c).After-factor_of-fx).1, (range-2 (goal.at.is_large-requires c).After-factor_of-fy).1)

pub returns-then-is_large : goal.returns-then-is_large
returns-then-is_large c =
    rw (← c.factor_of-fx.ensures, ← c.factor_of-fy.ensures) (image-large _ _ _ _ _ _ _ _ _ (sym c.is_large.ensures ∙ c.if-is_large.true))

pub bytes_of-requires : goal.bytes_of-requires
bytes_of-requires c = let s = sides (goal.at.bytes_of-requires c).Else-is_large in (s.width, s.height)

pub returns-then-size-bytes_of : goal.returns-then-size-bytes_of
returns-then-size-bytes_of c =
    rw (← c.factor_of-fx.ensures, ← c.factor_of-fy.ensures) (image-length _ _ _ _ _ _ _ _ _ (not-large (goal.at.returns-then-size-bytes_of c).Else-is_large) (λ z. c.if-size-bytes_of.true (z ∙ sym c.bytes_of.ensures)))

pub overflow_mul-w : goal.overflow_mul-w
overflow_mul-w c = omega (arith, (sides (goal.at.overflow_mul-w c).Else-is_large).wide)

pub overflow_mul-h : goal.overflow_mul-h
overflow_mul-h c = omega (arith, (sides (goal.at.overflow_mul-h c).Else-is_large).tall)

pub returns : goal.returns
returns c =
    rw (← c.factor_of-fx.ensures, ← c.factor_of-fy.ensures) (c.put_reason.ensures ∙ image-rest _ _ _ _ _ _ _ _ _ (not-large (goal.at.returns c).Else-is_large) (c.if-size-bytes_of.false ∙ c.bytes_of.ensures))
