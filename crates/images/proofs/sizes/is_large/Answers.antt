-- `images::sizes::is_large` meets its contract. Assumes nothing.
use native.Mathlib.Nat.{mul-le-mul}
use native.Mathlib.Omega.{arith}
use borrow.Author.Tests.{lt-ltb, le-ltb}
use Rattle.images.specs.Stretching.{is_large}
use Rattle.images.proofs.sizes.is_large.Goals as goal

pub returns-then-w-gt-LIMIT : goal.returns-then-w-gt-LIMIT
unfolding is_large
returns-then-w-gt-LIMIT c = rw (lt-ltb _ _ c.if-w-gt-LIMIT.true)

pub returns-then-h-gt-LIMIT : goal.returns-then-h-gt-LIMIT
unfolding is_large
returns-then-h-gt-LIMIT c = rw (le-ltb _ _ c.if-w-gt-LIMIT.false, lt-ltb _ _ c.if-h-gt-LIMIT.true)

pub overflow_mul-w : goal.overflow_mul-w
overflow_mul-w c = omega (arith, mul-le-mul c.if-w-gt-LIMIT.false c.requires.0)

pub returns-then-w-fx-gt-LIMIT : goal.returns-then-w-fx-gt-LIMIT
unfolding is_large
returns-then-w-fx-gt-LIMIT c =
    rw (le-ltb _ _ c.if-w-gt-LIMIT.false, le-ltb _ _ c.if-h-gt-LIMIT.false, lt-ltb _ _ c.if-w-fx-gt-LIMIT.true)

pub overflow_mul-result : goal.overflow_mul-result
overflow_mul-result c = omega (arith, mul-le-mul c.if-h-gt-LIMIT.false c.requires.1)

pub returns : goal.returns
unfolding is_large
returns c =
    rw (le-ltb _ _ c.if-w-gt-LIMIT.false, le-ltb _ _ c.if-h-gt-LIMIT.false, le-ltb _ _ c.if-w-fx-gt-LIMIT.false)
