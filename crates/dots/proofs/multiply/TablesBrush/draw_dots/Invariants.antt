-- Drawing by tables meets its contract. The loop's invariant: the dots from `at` to `i` are multiplied. Assumes nothing.
use Rattle.std.proofs.Common.{◌≡◌}
use Rattle.colour.specs.Colour.{multiplied}
use Rattle.dots.specs.Dots.{change, within}
use Rattle.dots.proofs.multiply.TablesBrush.draw_dots.Given as goal

abbrev pub invariant-loop-i : goal.invariant-loop-i
invariant-loop-i l = l.buf ≡ change (within l.at l.i) (λ _ s. multiplied l.self.color s) l.initial.buf
