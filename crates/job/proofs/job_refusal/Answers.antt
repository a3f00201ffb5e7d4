-- `job::job_refusal` meets its contract. Assumes nothing.
use mathlib.Core.Path.{sym, ◌∙◌}
use mathlib.Core.Logic.{⊎_elim}
use native.Mathlib.Omega.{arith}
use Rattle.job.proofs.Found.{found}
use Rattle.job.proofs.Walk.{job-empty, job-bad, job-no-paper, job-rest}
use Rattle.job.proofs.job_refusal.Goals as goal

pub sound_paper-requires : goal.sound_paper-requires
sound_paper-requires c =
    omega (arith, found _ _ (sym c.in-Record.is ∙ c.next_record.ensures))

pub rest_refusal-requires : goal.rest_refusal-requires
rest_refusal-requires c =
    (found _ _ (sym c.in-Record.is ∙ c.next_record.ensures)).fits

pub returns-then-sound_paper : goal.returns-then-sound_paper
returns-then-sound_paper c =
    job-rest _ (sym c.in-Record.is ∙ c.next_record.ensures) (sym c.if-sound_paper.true ∙ c.sound_paper.ensures) c.rest_refusal.ensures

pub returns-else-sound_paper : goal.returns-else-sound_paper
returns-else-sound_paper c =
    job-no-paper _ (sym c.in-Record.is ∙ c.next_record.ensures) (sym c.if-sound_paper.false ∙ c.sound_paper.ensures)

pub returns-in-Bad : goal.returns-in-Bad
returns-in-Bad c =
    ⊎_elim (λ e. job-bad _ (sym e ∙ c.next_record.ensures)) (λ e. job-empty _ (sym e ∙ c.next_record.ensures)) c.in-Bad.is
