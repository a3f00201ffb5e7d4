-- `dots::dot::by_word` meets its contract. Assumes nothing.
use native.Mathlib.Omega.{arith}
use Rattle.dots.proofs.Laws.{word-dot}
use Rattle.dots.proofs.dot.by_word.Goals as goal

pub returns : goal.returns
returns c = word-dot c.args.c (omega arith) (omega arith) (omega arith) (omega arith)
