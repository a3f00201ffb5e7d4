-- `pixels::put_run` meets its contract. Assumes nothing.
use mathlib.Core.Logic.{inl, inr}
use mathlib.Core.Path.{refl, sym, ◌∙◌}
use Rattle.pixels.proofs.put_run.Goals as goal

pub draw_bytes-requires : goal.draw_bytes-requires
draw_bytes-requires c =
    record { count_in_bounds = c.requires; fact = inr (refl, sym c.all_crisp-crisp.ensures ∙ c.if-crisp.true) }

pub returns-then-crisp : goal.returns-then-crisp
returns-then-crisp c = rw c.if-multiply.true c.draw_bytes.ensures

pub draw_bytes-requires-then-multiply : goal.draw_bytes-requires-then-multiply
draw_bytes-requires-then-multiply c = record { count_in_bounds = c.requires; fact = inl refl }

pub returns-then-multiply : goal.returns-then-multiply
returns-then-multiply c = rw c.if-multiply.true c.draw_bytes-then-multiply.ensures

pub cover_each-requires : goal.cover_each-requires
cover_each-requires c =
    record { count_in_bounds = c.requires; count_value = sym c.all_crisp-crisp.ensures ∙ c.if-crisp-2.true }

pub returns-then-crisp-2 : goal.returns-then-crisp-2
returns-then-crisp-2 c = rw c.if-multiply.false c.cover_each.ensures

pub draw_bytes-requires-2 : goal.draw_bytes-requires-2
draw_bytes-requires-2 c = record { count_in_bounds = c.requires; fact = inl refl }

pub returns : goal.returns
returns c = rw c.if-multiply.false c.draw_bytes-2.ensures
