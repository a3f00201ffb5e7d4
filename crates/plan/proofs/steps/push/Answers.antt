-- `plan::steps::push` meets its contract. Assumes nothing.
use Rattle.plan.proofs.Answers.{pushed-high}
use Rattle.plan.proofs.steps.push.Goals as goal

pub returns : goal.returns
returns c = pushed-high c.args.plan c.args.e c.max.ensures
