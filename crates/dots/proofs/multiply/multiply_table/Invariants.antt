-- `dots::multiply_table` meets its contract. The loop's invariant: the answers below `s` are there. Assumes nothing.
use Rattle.std.proofs.Common.{◌≡◌, ◌<◌, ℕ, length, get_or}
use Rattle.colour.specs.Channel.{multiply_byte}
use Rattle.dots.proofs.multiply.multiply_table.Given as goal

abbrev pub invariant-loop-s : goal.invariant-loop-s
invariant-loop-s l = (length l.t ≡ 256) × ((i : ℕ) → i < l.s → get_or l.t i 0 ≡ multiply_byte i l.c l.a)
