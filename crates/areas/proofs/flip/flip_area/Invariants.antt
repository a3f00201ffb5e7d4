-- `areas::flip_area` meets its contract. Assumes nothing.
use Rattle.areas.proofs.Flips.{Flip}
use Rattle.areas.proofs.flip.flip_area.Given as goal

abbrev pub invariant-loop-j : goal.invariant-loop-j
invariant-loop-j l = Flip l.area.wide l.area.x l.area.y l.area.w l.area.h l.initial.buf l.j l.buf
