-- The public function's contract leaves one answer and one content of the buffer. Assumes nothing.
use Rattle.numbers.proofs.OneAnswer.{OneAnswer, OneContent, both}
use Rattle.runs.proofs.run.Reads as run

run-one : OneAnswer run.Post
run-one k a x y e f p q = both p.0 q.0

run-content : OneContent run.Post (λ k e. e.1.0.now)
run-content k a x y e f p q = both p.1 q.1
