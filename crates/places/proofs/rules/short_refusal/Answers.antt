-- `places::rules::short_refusal` meets its contract. Assumes nothing.
use mathlib.Core.Path.{◌≡◌, sym, ◌∙◌}
use mathlib.Core.Bool.{true}
use Prim.Native.Nat.{ℕ, ◌-◌, ◌*◌, ◌≤◌}
use native.Mathlib.Nat.{mul-le-mul}
use native.Mathlib.Omega.{arith}
use borrow.Author.Tests.{lt-ltb, le-ltb}
use Rattle.places.specs.Places.{cropped, short_refusal}
use Rattle.places.proofs.rules.short_refusal.Goals as goal
use Rattle.places.proofs.rules.short_refusal.Goals.{After-crop_pixels-c}

is : (c : After-crop_pixels-c) → let p = c.args in cropped p.t p.x p.y p.w ≡ true
is c = sym c.cropped.ensures ∙ c.if-not-cropped.false

-- where the last row of the pixels starts
pixel-fits : {h w : ℕ} → h ≤ 4294967295 → w ≤ 4294967295 → (h - 1) * w ≤ 18446744060824649730
pixel-fits {h} a b = mul-le-mul {n₂ = 4294967294} {m₂ = 4294967295} (omega arith) b

pub returns-then-not-cropped : goal.returns-then-not-cropped
unfolding short_refusal
returns-then-not-cropped c = rw (sym c.cropped.ensures ∙ c.if-not-cropped.true)

pub returns-then-c-eq0 : goal.returns-then-c-eq0
unfolding short_refusal
returns-then-c-eq0 c =
    rw (is (goal.at.returns-then-c-eq0 c).After-crop_pixels-c, ← c.crop_pixels-c.ensures.1, le-ltb 0 c.crop_pixels-c.result.h (omega (arith, c.if-c-eq0.true)))

pub overflow_mul-c : goal.overflow_mul-c
overflow_mul-c c =
    let p = c.args in
    omega (arith, pixel-fits {h = c.crop_pixels-c.result.h} {w = p.w} (omega arith) (omega arith))

pub overflow_add-c : goal.overflow_add-c
overflow_add-c c =
    let p = c.args in
    omega (arith, pixel-fits {h = c.crop_pixels-c.result.h} {w = p.w} (omega arith) (omega arith))

pub returns-then-pixels-c : goal.returns-then-pixels-c
unfolding short_refusal
returns-then-pixels-c c =
    rw (is (goal.at.returns-then-pixels-c c).After-crop_pixels-c, ← c.crop_pixels-c.ensures.0, ← c.crop_pixels-c.ensures.1, lt-ltb 0 c.crop_pixels-c.result.h (omega (arith, c.if-c-eq0.false)), lt-ltb _ _ c.if-pixels-c.true)

pub returns : goal.returns
unfolding short_refusal
returns c =
    rw (is (goal.at.returns c).After-crop_pixels-c, ← c.crop_pixels-c.ensures.0, ← c.crop_pixels-c.ensures.1, lt-ltb 0 c.crop_pixels-c.result.h (omega (arith, c.if-c-eq0.false)), le-ltb _ _ c.if-pixels-c.false)
