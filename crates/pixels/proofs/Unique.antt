-- The public function's contract leaves one content of the buffer. Assumes nothing.
use Rattle.numbers.proofs.OneAnswer.{OneContent, both}
use Rattle.pixels.proofs.put_run.Reads as put-run

put-run-one : OneContent put-run.Post (λ k e. e.0.now)
put-run-one k a x y e f p q = both p q
