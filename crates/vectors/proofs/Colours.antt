-- The `==` of colours, which is derived, tells whether they are the same colour. Assumes nothing.
use Rattle.std.proofs.Common.{◌≡◌, refl, Bool, true, false, nat_eq}
use Rattle.std.specs.Prelude.{◌&&◌}
use Rattle.colour.specs.declared.RGBA.{RGBA}
use Rattle.vectors.specs.Hex.{same_color}

pub same-color : (c d : RGBA) → (nat_eq c.r d.r && (nat_eq c.g d.g && (nat_eq c.b d.b && nat_eq c.a d.a))) ≡ same_color c d
unfolding same_color
same-color c d = grouped (nat_eq c.r d.r) (nat_eq c.g d.g) (nat_eq c.b d.b) (nat_eq c.a d.a)
  where
    grouped : (r g b a : Bool) → (r && (g && (b && a))) ≡ (((r && g) && b) && a)
    grouped false g b a = refl
    grouped true false b a = refl
    grouped true true b a = refl
