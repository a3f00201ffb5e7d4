-- The inner steps of decoding layers.
use Rattle.std.specs.Prelude.{ℕ, ◌+◌, ◌*◌, ◌≤◌, ◌≡◌, Bool}
use Rattle.images.specs.declared.scale.Source.{Source}
use Rattle.images.specs.Formats.{raster_of}
use Rattle.images.specs.Steps.{Sound}
use Rattle.graphics.specs.Layers.{layer_bytes}

-- n layers in `size` bytes, each as long as its source asks for
pub record Layered (bits : Bool) (s : Source) (n size : ℕ) : Type 0 where
  pub format : s.format ≡ raster_of bits
  pub sound : Sound s (layer_bytes bits s.w s.h)
  pub whole : n * (1 + layer_bytes bits s.w s.h) ≤ size
