-- The contract of each function leaves one answer. Assumes nothing.
use Rattle.numbers.proofs.OneAnswer.{OneAnswer, both}
use Rattle.numbers.proofs.refusal.Refusal.number.Reads as refusal-number
use Rattle.numbers.proofs.refusal.number.Reads as number

refusal-number-one : OneAnswer refusal-number.Post
refusal-number-one k a x y e f p q = both p q

number-one : OneAnswer number.Post
number-one k a x y e f p q = both p q
