-- `dots::lanes` meets its contract. The loop's invariant: the places below 4 · `i` are filled. Assumes nothing.
use Rattle.std.proofs.Common.{◌≡◌, ◌*◌, ◌%◌, ◌<◌, ℕ, length, get_or}
use Rattle.colour.specs.Colour.{rgba}
use Rattle.dots.specs.Dots.{chan}
use Rattle.dots.proofs.mix.lanes.Given as goal

abbrev pub invariant-loop-i : goal.invariant-loop-i
invariant-loop-i l = (length l.p ≡ 64) × ((j : ℕ) → j < l.i * 4 → get_or l.p j 0 ≡ chan (rgba l.x l.y l.z l.w) (j % 4))
