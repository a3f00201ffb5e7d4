use Rattle.std.proofs.Common.{◌≡◌}
use Rattle.vectors.specs.Seeds.{state_after, seeded}
use Rattle.vectors.proofs.Fronts.{Front}
use Rattle.vectors.proofs.seeds.fill_from.Given as goal

abbrev pub invariant-loop-byte : goal.invariant-loop-byte
invariant-loop-byte l = (l.state ≡ state_after l.seed l.byte-index) × Front (seeded l.seed l.byte-index) l.byte-index l.initial.byte-items l.byte-items
