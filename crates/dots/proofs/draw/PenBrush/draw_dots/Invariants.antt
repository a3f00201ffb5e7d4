-- Drawing dot by dot meets its contract. The loop's invariant: the dots from `at` to `i` are drawn on. Assumes nothing.
use Rattle.std.proofs.Common.{◌≡◌}
use Rattle.dots.specs.Dots.{change, within, drawn}
use Rattle.dots.proofs.draw.PenBrush.draw_dots.Given as goal

abbrev pub invariant-loop-i : goal.invariant-loop-i
invariant-loop-i l = l.buf ≡ change (within l.at l.i) (λ _ s. drawn l.self.multiply l.self.color s) l.initial.buf
