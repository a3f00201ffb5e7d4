-- `pixels::bytes::spread` meets its contract. Assumes nothing.
use Rattle.pixels.specs.Steps.{inks, alphas}
use Rattle.pixels.proofs.Spread.{Spread}
use Rattle.pixels.proofs.bytes.spread.Given as goal

abbrev pub invariant-loop-i : goal.invariant-loop-i
invariant-loop-i l = Spread (inks l.multiply) l.pixels l.from l.initial.ink l.i l.ink × Spread (alphas l.multiply) l.pixels l.from l.initial.alpha l.i l.alpha
