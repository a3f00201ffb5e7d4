-- `images::scale::decode_single_color` meets its contract. The loop's invariant: the rows before `j` are drawn. Assumes nothing.
use Rattle.std.proofs.Common.{◌*◌}
use Rattle.images.specs.Steps.{source_pixel}
use Rattle.images.proofs.Scaling.{Down}
use Rattle.images.proofs.scale.decode_single_color.Given as goal

abbrev pub invariant-loop-j : goal.invariant-loop-j
invariant-loop-j l = Down l.wide l.tall l.blend (source_pixel l.image.source l.image.«data».now) l.initial.out l.j (l.j * l.wide) l.out
