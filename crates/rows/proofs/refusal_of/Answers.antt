-- `rows::refusal_of` meets its contract. Assumes nothing.
use mathlib.Core.Path.{◌∙◌}
use Rattle.rows.proofs.Rules.{refusal-one}
use Rattle.rows.proofs.refusal_of.Goals as goal

pub returns : goal.returns
returns c = c.rows_refusal.ensures ∙ refusal-one _ _ _ _ _
