-- The public function's contract leaves one answer. Assumes nothing.
use Rattle.numbers.proofs.OneAnswer.{OneAnswer, both}
use Rattle.plan.proofs.translate.Reads as translate

translate-one : OneAnswer translate.Post
translate-one k a x y e f p q = both p q
