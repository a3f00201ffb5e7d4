-- `areas::flip::flip_some` meets its contract. Assumes nothing.
use Rattle.std.proofs.Common.{rules}
use Rattle.areas.proofs.Flips.{piece-one, piece-two}
use Rattle.areas.proofs.flip.flip_some.Goals as goal

pub returns-then-top-bottom : goal.returns-then-top-bottom
returns-then-top-bottom c =
    piece-one _ _ _ _ _ c.if-top-bottom.true (search rules) c.copy_run-2.ensures c.put_run.ensures

pub returns : goal.returns
returns c =
    piece-two _ _ _ _ _ _ c.requires.1 c.if-top-bottom.false (search rules) (search rules) c.copy_run-2.ensures c.copy_run.ensures c.put_run.ensures c.put_run-2.ensures
