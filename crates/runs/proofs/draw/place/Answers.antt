-- `runs::draw::place` meets its contract. Assumes nothing.
use native.Mathlib.Omega.{arith}
use Rattle.runs.proofs.Answers.{place-asks, place-answers}
use Rattle.runs.proofs.draw.place.Goals as goal

pub overflow_add-e : goal.overflow_add-e
overflow_add-e c = omega (arith, c.requires.0.tall)

pub grow-tall-requires : goal.grow-tall-requires
grow-tall-requires c = c.requires.0

pub draw_entry-requires : goal.draw_entry-requires
draw_entry-requires c = (place-asks _ _ _ _ _ _ c.requires.0 c.grow-tall.ensures.buf_after, c.requires.1)

pub returns : goal.returns
returns c =
    record { value = c.grow-tall.ensures.value; buf_after = place-answers _ _ _ _ _ _ c.grow-tall.ensures.buf_after c.draw_entry.ensures }
