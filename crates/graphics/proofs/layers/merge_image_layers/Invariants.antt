-- `graphics::layers::merge_image_layers` meets its contract. Assumes nothing.
use Rattle.graphics.proofs.Layering.{Merging}
use Rattle.graphics.proofs.layers.merge_image_layers.Given as goal

abbrev pub invariant-loop-k : goal.invariant-loop-k
invariant-loop-k l = Merging l.colors l.data l.bits l.source l.initial.out l.n l.k l.out
