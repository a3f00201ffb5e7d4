-- `graphics::refusals::layers_refusal` meets its contract. Assumes nothing.
use mathlib.Core.Path.{◌≡◌, refl, sym, ◌∙◌}
use mathlib.Core.Bool.{Bool, false}
use Prim.Native.Nat.{◌+◌, ◌*◌, ◌≤◌}
use native.Mathlib.Nat.{mul-le-mul}
use native.Mathlib.Omega.{arith}
use Rattle.numbers.specs.Numbers.{done, no_room, layer_size}
use Rattle.std.specs.Prelude.{if◌then◌else◌}
use Rattle.images.specs.Formats.{bytes_of, raster_of}
use Rattle.images.specs.Stretching.{is_large}
use Rattle.graphics.specs.Decoding.{lacks_room}
use Rattle.graphics.specs.Layers.{layer_bytes, outgrown, layers_refusal}
use Rattle.images.proofs.Sides.{Small, small}
use Rattle.graphics.proofs.Codes.{layer-small, layers-large, layers-length, layers-none, layers-inner, layers-rest}
use Rattle.graphics.proofs.refusals.layers_refusal.Goals as goal
use Rattle.graphics.proofs.refusals.layers_refusal.Goals.{After-bytes_of, After-layer_bytes-layer, Else-is_large, Else-layer-bytes_of, Else-size-n}

not-large : (c : Else-is_large) → is_large c.args.w c.args.h c.args.fx c.args.fy ≡ false
not-large c = sym c.is_large.ensures ∙ c.if-is_large.false

sides : (c : Else-is_large) → Small c.args.w c.args.h c.args.fx c.args.fy
sides c = small _ _ _ _ (not-large c)

layer_fits : (c : After-layer_bytes-layer) → c.layer_bytes-layer.result ≤ 268435456
layer_fits c = let s = sides c.before in rw c.layer_bytes-layer.ensures (layer-small c.args.bits s.width s.height)

whole : (c : Else-size-n) → let p = c.args in p.size ≡ p.n * (1 + layer_bytes p.bits p.w p.h)
whole c = c.if-size-n.false ∙ rw c.layer_bytes-layer.ensures

asked_of : (c : After-bytes_of) → let p = c.args in c.bytes_of.result ≡ bytes_of (raster_of p.bits) p.w p.h
asked_of c = c.bytes_of.ensures ∙ rw c.raster_of.ensures

same_bytes : (c : Else-layer-bytes_of) → let p = c.args in layer_bytes p.bits p.w p.h ≡ bytes_of (raster_of p.bits) p.w p.h
same_bytes c = sym c.layer_bytes-layer.ensures ∙ c.if-layer-bytes_of.false ∙ asked_of c.before

-- what is left once a layer is as long as it has to be
rest : (c : Else-layer-bytes_of) {s t : Bool} → let p = c.args in
    outgrown (p.w * p.fx) (p.h * p.fy) (p.w * p.fx) (p.h * p.fy) ≡ s → lacks_room p.w p.h p.fx p.fy p.room ≡ t
    → (if s then layer_size else if t then no_room else done) ≡ layers_refusal p.bits p.w p.h p.fx p.fy p.n p.size p.room
rest c o u =
    layers-rest _ _ _ _ _ _ _ _ (not-large c.before.before.before.before.before.before) (whole c.before.before.before.before) c.if-n-eq0.false (same_bytes c) o u

pub returns-then-is_large : goal.returns-then-is_large
returns-then-is_large c = layers-large _ _ _ _ _ _ _ _ (sym c.is_large.ensures ∙ c.if-is_large.true)

pub layer_bytes-layer-requires : goal.layer_bytes-layer-requires
layer_bytes-layer-requires c = let s = sides (goal.at.layer_bytes-layer-requires c).Else-is_large in (s.width, s.height)

pub overflow_add-layer : goal.overflow_add-layer
overflow_add-layer c = omega (arith, layer_fits (goal.at.overflow_add-layer c).After-layer_bytes-layer)

pub overflow_mul-n : goal.overflow_mul-n
overflow_mul-n c =
    let n : c.args.n ≤ 255 = omega arith in
    let l : 1 + c.layer_bytes-layer.result ≤ 268435457 = omega (arith, layer_fits (goal.at.overflow_mul-n c).After-layer_bytes-layer) in
    omega (arith, mul-le-mul n l)

pub returns-then-size-n : goal.returns-then-size-n
returns-then-size-n c =
    layers-length _ _ _ _ _ _ _ _ (not-large (goal.at.returns-then-size-n c).Else-is_large) (λ e. c.if-size-n.true (e ∙ rw c.layer_bytes-layer.ensures))

pub returns-then-n-eq0 : goal.returns-then-n-eq0
returns-then-n-eq0 c = layers-none _ _ _ _ _ _ _ _ (not-large (goal.at.returns-then-n-eq0 c).Else-is_large) (whole (goal.at.returns-then-n-eq0 c).Else-size-n) c.if-n-eq0.true

pub bytes_of-requires : goal.bytes_of-requires
bytes_of-requires c = let s = sides (goal.at.bytes_of-requires c).Else-is_large in (s.width, s.height)

pub returns-then-layer-bytes_of : goal.returns-then-layer-bytes_of
returns-then-layer-bytes_of c =
    layers-inner _ _ _ _ _ _ _ _ (not-large (goal.at.returns-then-layer-bytes_of c).Else-is_large) (whole (goal.at.returns-then-layer-bytes_of c).Else-size-n) c.if-n-eq0.false (λ e. c.if-layer-bytes_of.true (c.layer_bytes-layer.ensures ∙ e ∙ sym (asked_of (goal.at.returns-then-layer-bytes_of c).After-bytes_of)))

pub overflow_mul-w : goal.overflow_mul-w
overflow_mul-w c = omega (arith, (sides (goal.at.overflow_mul-w c).Else-is_large).wide)

pub overflow_mul-h : goal.overflow_mul-h
overflow_mul-h c = omega (arith, (sides (goal.at.overflow_mul-h c).Else-is_large).tall)

pub overflow_mul-w-2 : goal.overflow_mul-w-2
overflow_mul-w-2 c = omega (arith, (sides (goal.at.overflow_mul-w-2 c).Else-is_large).wide)

pub overflow_mul-h-2 : goal.overflow_mul-h-2
overflow_mul-h-2 c = omega (arith, (sides (goal.at.overflow_mul-h-2 c).Else-is_large).tall)

pub returns-then-outgrows : goal.returns-then-outgrows
returns-then-outgrows c = rest (goal.at.returns-then-outgrows c).Else-layer-bytes_of (sym c.outgrows.ensures ∙ c.if-outgrows.true) refl

pub lacks_room-requires : goal.lacks_room-requires
lacks_room-requires c = let s = sides (goal.at.lacks_room-requires c).Else-is_large in (s.wide, s.tall)

pub returns-then-lacks_room : goal.returns-then-lacks_room
returns-then-lacks_room c =
    rest (goal.at.returns-then-lacks_room c).Else-layer-bytes_of (sym c.outgrows.ensures ∙ c.if-outgrows.false) (sym c.lacks_room.ensures ∙ c.if-lacks_room.true)

pub returns : goal.returns
returns c =
    rest (goal.at.returns c).Else-layer-bytes_of (sym c.outgrows.ensures ∙ c.if-outgrows.false) (sym c.lacks_room.ensures ∙ c.if-lacks_room.false)
