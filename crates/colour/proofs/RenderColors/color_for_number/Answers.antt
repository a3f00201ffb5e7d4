-- `colour::RenderColors::color_for_number` meets its contract. Assumes nothing.
use Rattle.std.proofs.Common.{inl, inr, ⊎_elim, ne_eqb}
use Rattle.colour.specs.Colour.{color_for_number}
use Rattle.colour.proofs.RenderColors.color_for_number.Goals as goal

pub returns-in-0 : goal.returns-in-0
unfolding color_for_number
returns-in-0 c = rw c.in-0.is

pub returns-in-1 : goal.returns-in-1
unfolding color_for_number
returns-in-1 c = ⊎_elim (λ e. rw e) (λ e. rw e) c.in-1.is

pub returns-in-2 : goal.returns-in-2
unfolding color_for_number
returns-in-2 c = ⊎_elim (λ e. rw e) (λ e. rw e) c.in-2.is

pub returns-in-3 : goal.returns-in-3
unfolding color_for_number
returns-in-3 c = ⊎_elim (λ e. rw e) (λ e. rw e) c.in-3.is

pub returns-in_default : goal.returns-in_default
unfolding color_for_number
returns-in_default c =
    let n = c.args.number in
    let r = c.in_default.in_default-own.rest in
    rw (ne_eqb n 0 r.0.0.0.1, ne_eqb n 1 (λ e. r.0.0.1 (inl e)), ne_eqb n 49 (λ e. r.0.0.1 (inr e)), ne_eqb n 2 (λ e. r.0.1 (inl e)), ne_eqb n 50 (λ e. r.0.1 (inr e)), ne_eqb n 3 (λ e. r.1 (inl e)), ne_eqb n 51 (λ e. r.1 (inr e)))
