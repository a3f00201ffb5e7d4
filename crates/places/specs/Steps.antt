-- What the contract of the step of drawing that puts pixels asks for.
use Rattle.std.specs.Prelude.{ℕ, ◌+◌, ◌≤◌, ◌<◌, ◌≡◌}
use Rattle.numbers.specs.Numbers.{limit, done}
use Rattle.thermal_image.specs.declared.ThermalImage.{ThermalImage}
use Rattle.refusals.specs.Refusals.{grow_refusal}
use Rattle.places.specs.Places.{crop_tall}

-- what is known where a put is not refused
pub record Ready (t : ThermalImage) (x y w h rows n : ℕ) : Type 0 where
  pub on : x < t.width
  pub wide : w ≤ limit
  pub tall : h ≤ limit
  pub more : t.height ≤ rows
  pub down : y + crop_tall t x y w h ≤ rows
  pub grows : grow_refusal t.width t.height rows n ≡ done
