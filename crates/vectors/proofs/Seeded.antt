-- Bytes from a seed, one by one. Assumes nothing.
use mathlib.Core.Path.{◌≡◌}
use mathlib.Core.List.{[], ◌∷◌, ◌++◌}
use Prim.Native.Nat.{ℕ, ◌+◌}
use native.Mathlib.Numerals.{add-one}
use Rattle.vectors.specs.Seeds.{next_state, state_after, seeded_byte, seeded}

pub state-next : (seed n : ℕ) → state_after seed (n + 1) ≡ next_state (state_after seed n)
unfolding state_after
state-next seed n = rw add-one

pub seeded-next : (seed n : ℕ) → seeded seed (n + 1) ≡ seeded seed n ++ (seeded_byte seed (state_after seed (n + 1)) ∷ [])
unfolding seeded
seeded-next seed n = rw add-one
