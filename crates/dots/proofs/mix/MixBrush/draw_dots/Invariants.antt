-- Drawing by factors and terms meets its contract. The loop's invariant: the dots from `at` to `i` are drawn on. Assumes nothing.
use Rattle.std.proofs.Common.{◌≡◌, ◌+◌, ◌-◌, ◌≤◌}
use Rattle.dots.specs.Dots.{change, within, drawn}
use Rattle.dots.proofs.mix.MixBrush.draw_dots.Given as goal

abbrev pub invariant-loop-i : goal.invariant-loop-i
invariant-loop-i l = (l.at ≤ l.i) × (l.i ≤ l.at + l.count) × (l.buf ≡ change (within l.at l.i) (λ _ s. drawn l.self.multiply l.self.color s) l.initial.buf)

abbrev pub decreases-loop-i : goal.decreases-loop-i
decreases-loop-i l = l.at + l.count - l.i
