-- The entries that the constructors make. Assumes nothing.
use Prim.Native.Nat.{ℕ, ◌*◌, ◌-◌, ◌≤◌, min}
use mathlib.Core.Path.{◌≡◌, refl}
use Rattle.colour.specs.declared.RGBA.{RGBA}
use Rattle.job.specs.Commands.{rectangle_kind, image_kind}
use Rattle.images.specs.Stretching.{factor}
use Rattle.entries.specs.declared.Entry.{Entry}
use Rattle.entries.specs.Entries.{rectangle_entry, image_entry}

pub rectangle-made : (W x y w h : ℕ) (c : RGBA) (mode : ℕ) {cut : ℕ} → cut ≡ min w (W - x)
    → ◌≡◌ {A = Entry}
    (record {
      kind = rectangle_kind;
      mode = mode;
      stretch_x = 0;
      stretch_y = 0;
      color = c;
      x = x;
      y = y;
      w = cut;
      h = h;
      original_width = 0;
      original_height = 0;
      start = 0;
    })
    (rectangle_entry W x y w h c mode)
unfolding rectangle_entry
rectangle-made W x y w h c mode e = rw e refl

pub image-made : (W x y w h sx sy : ℕ) (c : RGBA) (mode start : ℕ) {fx fy cut : ℕ} → fx ≡ factor sx → fy ≡ factor sy → cut ≡ min (w * fx) (W - x)
    → ◌≡◌ {A = Entry}
    (record {
      kind = image_kind;
      mode = mode;
      stretch_x = fx;
      stretch_y = fy;
      color = c;
      x = x;
      y = y;
      w = cut;
      h = h * fy;
      original_width = w;
      original_height = h;
      start = start;
    })
    (image_entry W x y w h (factor sx) (factor sy) c mode start)
unfolding image_entry
image-made W x y w h sx sy c mode start a b e = rw (e, a, b) refl

pub scaled : (w : ℕ) {f g b : ℕ} → f ≡ g → w * g ≤ b → w * f ≤ b
scaled w e h = rw e h
