-- `colour::RGBA::covered` meets its contract. Assumes nothing.
use Rattle.std.proofs.Common.{⊎_elim}
use Rattle.colour.proofs.Laws.{blended-none, blended-full}
use Rattle.colour.proofs.RGBA.covered.Goals as goal

pub returns-then-alpha-eq-TRANSPARENT : goal.returns-then-alpha-eq-TRANSPARENT
returns-then-alpha-eq-TRANSPARENT c = blended-none c.args.color c.args.self c.if-alpha-eq-TRANSPARENT.true

pub returns : goal.returns
returns c =
    blended-full c.args.color c.args.self (⊎_elim (λ e. absurd (c.if-alpha-eq-TRANSPARENT.false e)) (λ e. e) c.requires)
