-- `vectors::seeds::fill_from` meets its contract.
use Rattle.std.proofs.Common.{refl, sym, ap, ◌∙◌, arith}
use Rattle.vectors.specs.Seeds.{next_state, state_after, seeded}
use Rattle.vectors.proofs.Seeded.{state-next, seeded-next}
use Rattle.vectors.proofs.Fronts.{front-none, front-next}
use Rattle.vectors.proofs.seeds.fill_from.Goals as goal

pub loop-byte-init : goal.loop-byte-init
unfolding state_after seeded
loop-byte-init c = (refl, front-none _)

pub loop-byte-preserved : goal.loop-byte-preserved
loop-byte-preserved c =
    let e = c.next_state-state.ensures ∙ ap next_state c.loop-byte.invariant.0 ∙ sym (state-next _ _) in
    (e, front-next _ c.loop-byte.invariant.1 (omega arith) (rw (c.seeded_byte.ensures, e) (seeded-next _ _)))
