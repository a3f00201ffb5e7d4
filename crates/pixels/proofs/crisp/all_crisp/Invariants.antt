-- `pixels::crisp::all_crisp` meets its contract. Assumes nothing.
use Rattle.std.proofs.Common.{◌≡◌, ◌*◌, true}
use Rattle.pixels.specs.Steps.{all_crisp}
use Rattle.pixels.proofs.crisp.all_crisp.Given as goal

abbrev pub invariant-loop-k : goal.invariant-loop-k
invariant-loop-k l = true ≡ all_crisp l.pixels l.from (l.k * 32)
