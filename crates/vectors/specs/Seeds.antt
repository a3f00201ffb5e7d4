-- Bytes from a seed.
use Rattle.std.specs.Prelude.{ℕ, zero, suc, ◌+◌, ◌*◌, ◌/◌, ◌%◌, ◌^◌, List, [], ◌∷◌, ◌++◌, ltb, eqb, if◌then◌else◌}

abbrev pub next_state : ℕ → ℕ
next_state state = (state * 1664525 + 1013904223) % 2 ^ 32

-- the state is the seed at first, and the next for each byte
unfoldable pub state_after : ℕ → ℕ → ℕ
state_after seed zero = seed
state_after seed (suc n) = next_state (state_after seed n)

-- the state divided by 2^24; if the seed is odd, 0 where that is below 128 and else 255
unfoldable pub seeded_byte : ℕ → ℕ → ℕ
seeded_byte seed state = let byte = state / 2 ^ 24 in if eqb (seed % 2) 0 then byte else if ltb byte 128 then 0 else 255

-- n bytes
unfoldable pub seeded : ℕ → ℕ → List ℕ
seeded seed zero = []
seeded seed (suc n) = seeded seed n ++ (seeded_byte seed (state_after seed (suc n)) ∷ [])
