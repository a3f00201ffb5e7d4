use Rattle.job.proofs.Reasons.{after-fits}
use mathlib.Core.Path.{refl, sym}
use Rattle.numbers.proofs.Refusals.{never}
use Rattle.runs.proofs.Answers.{seen-out, seen-in}
use Rattle.runs.proofs.survey.look_at.Goals as goal

pub returns-in-Err : goal.returns-in-Err
returns-in-Err c = seen-out _ _ _ _ c.in-Err.ensures (never _) c.leave_out.ensures

pub height_after-requires : goal.height_after-requires
height_after-requires c = after-fits _ _ _ (sym c.in_default.ensures)

pub returns : goal.returns
returns c = seen-in _ _ _ _ c.in_default.ensures refl c.height_after.ensures
