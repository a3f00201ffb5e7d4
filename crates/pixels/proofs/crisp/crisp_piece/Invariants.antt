-- `pixels::crisp::crisp_piece` meets its contract. Assumes nothing.
use Rattle.std.proofs.Common.{◌≡◌}
use Rattle.pixels.specs.Steps.{all_crisp}
use Rattle.pixels.proofs.crisp.crisp_piece.Given as goal

abbrev pub invariant-loop-i : goal.invariant-loop-i
invariant-loop-i l = l.yet ≡ all_crisp l.pixels l.from l.i
