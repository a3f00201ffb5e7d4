-- `dots::set_dot` meets its contract. Assumes nothing.
use native.Mathlib.Omega.{arith}
use lib.ListN.{length-set}
use Rattle.dots.proofs.dot.set_dot.Goals as goal

pub bounds-buf-at-2 : goal.bounds-buf-at-2
bounds-buf-at-2 c = simp length-set (omega arith)

pub bounds-buf-at-3 : goal.bounds-buf-at-3
bounds-buf-at-3 c = simp length-set (omega arith)

pub bounds-buf-at-4 : goal.bounds-buf-at-4
bounds-buf-at-4 c = simp length-set (omega arith)
