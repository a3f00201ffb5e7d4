-- Each public function's contract leaves one answer. Assumes nothing.
use Rattle.std.proofs.Common.{◌≡◌, ℕ, List, [], Result, Ok, Err, refl, arith}
use Rattle.std.specs.Result.{IfOk}
use Rattle.numbers.specs.declared.refusal.Refusal.{Refusal}
use Rattle.numbers.specs.Numbers.{number}
use Rattle.numbers.proofs.OneAnswer.{OneAnswer, both}
use Rattle.numbers.proofs.Refusals.{one_answer, refused}
use Rattle.job.specs.declared.sound.Job.{Job}
use Rattle.job.proofs.bytes.read_u16.Reads as read-u16
use Rattle.job.proofs.bytes.read_u32.Reads as read_u32
use Rattle.job.proofs.bytes.read_rgba.Reads as read-rgba
use Rattle.job.proofs.records.next_record.Reads as next-record
use Rattle.job.proofs.commands.paper_width.Reads as paper-width
use Rattle.job.proofs.commands.paper_color.Reads as paper-color
use Rattle.job.proofs.commands.command_at.Reads as command-at
use Rattle.job.proofs.dropping.command_reason.Reads as command-reason
use Rattle.job.proofs.dropping.height_after.Reads as height-after
use Rattle.job.proofs.job_refusal.Reads as job-refusal
use Rattle.job.proofs.sound.Job.of.Reads as job-of
use Rattle.job.proofs.sound.Job.paper_width.Reads as job-width
use Rattle.job.proofs.sound.Job.paper_color.Reads as job-color

job-refusal-one : OneAnswer job-refusal.Post
job-refusal-one k a x y e f p q = one_answer x y (both p q)

next-record-one : OneAnswer next-record.Post
next-record-one k a x y e f p q = both p q

command-reason-one : OneAnswer command-reason.Post
command-reason-one k a x y e f p q = one_answer x y (both p q)

height-after-one : OneAnswer height-after.Post
height-after-one k a x y e f p q = both p q

command-at-one : OneAnswer command-at.Post
command-at-one k a x y e f p q = both p q

paper-width-one : OneAnswer paper-width.Post
paper-width-one k a x y e f p q = both p q

paper-color-one : OneAnswer paper-color.Post
paper-color-one k a x y e f p q = both p q

read-u16-one : OneAnswer read-u16.Post
read-u16-one k a x y e f p q = both p q

read-u32-one : OneAnswer read_u32.Post
read-u32-one k a x y e f p q = both p q

read-rgba-one : OneAnswer read-rgba.Post
read-rgba-one k a x y e f p q = both p q

-- the number, and the bytes of a job that is sound
bytes_of : {A : _} → Result A Refusal → (A → List ℕ) → List ℕ
bytes_of (Ok a) see = see a
bytes_of (Err why) see = []

job-of-one : (k : _) (a : _) (x y : _) (e f : _) → job-of.Post k a x e → job-of.Post k a y f → (number x ≡ number y) × (bytes_of x (λ j. j.bytes.now) ≡ bytes_of y (λ j. j.bytes.now))
unfolding bytes_of
job-of-one k a x y e f p q = (both p.0 q.0, same x y a.0.now (both p.0 q.0) p.1 q.1)
  where
    same : (x y : Result Job Refusal) (s : List ℕ) → number x ≡ number y → IfOk x (λ j. j.bytes.now ≡ s) → IfOk y (λ j. j.bytes.now ≡ s) → bytes_of x (λ j. j.bytes.now) ≡ bytes_of y (λ j. j.bytes.now)
    same (Ok i) (Ok j) s e p q = both p q
    same (Ok i) (Err why) s e p q = absurd (omega (arith, refused why))
    same (Err why) (Ok j) s e p q = absurd (omega (arith, refused why))
    same (Err a) (Err b) s e p q = refl

job-width-one : OneAnswer job-width.Post
job-width-one k a x y e f p q = both p q

job-color-one : OneAnswer job-color.Post
job-color-one k a x y e f p q = both p q
