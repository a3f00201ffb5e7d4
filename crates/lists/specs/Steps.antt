-- Inner steps of the row of a lent list.
use Rattle.std.specs.Prelude.{ℕ, eqb, if◌then◌else◌}
use Rattle.numbers.specs.Numbers.{done}

-- m where the row has number 0, and l where it is refused
abbrev pub unless_refused : {A : Type 0} → ℕ → A → A → A
unless_refused number m l = if eqb number done then m else l
