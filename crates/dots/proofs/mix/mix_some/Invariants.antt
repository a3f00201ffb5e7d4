-- `dots::mix_some` meets its contract. The loop's invariant: the bytes from `from` to `from + j` are mixed. Assumes nothing.
use Rattle.dots.specs.Tables.{lanes, factors, terms}
use Rattle.dots.proofs.Mixed.{Mixes}
use Rattle.dots.proofs.mix.mix_some.Given as goal

abbrev pub invariant-loop-j : goal.invariant-loop-j
invariant-loop-j l = Mixes (lanes (factors l.mix.multiply l.mix.color)) (lanes (terms l.mix.multiply l.mix.color)) l.from l.j l.initial.buf l.buf
