-- `dots::fill_run` meets its contract. The loop's invariant: the dots from `at` to `i` are changed. Assumes nothing.
use Rattle.std.proofs.Common.{◌≡◌}
use Rattle.dots.specs.Dots.{change, within}
use Rattle.dots.proofs.fill.fill_run.Given as goal

abbrev pub invariant-loop-i : goal.invariant-loop-i
invariant-loop-i l = l.buf ≡ change (within l.at l.i) (λ _ _. l.c) l.initial.buf
