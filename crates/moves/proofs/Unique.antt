-- Each public function's contract leaves one content of the written buffer. Assumes nothing.
use Rattle.numbers.proofs.OneAnswer.{OneContent, both}
use Rattle.moves.proofs.run.move_run.Reads as move-run
use Rattle.moves.proofs.lower.move_down.Reads as move_down
use Rattle.moves.proofs.widening.widen.Reads as widen
use Rattle.moves.proofs.turning.turn.Reads as turn
use Rattle.moves.proofs.copy.copy_run.Reads as copy_run
use Rattle.moves.proofs.copy.copy_dots.Reads as copy-dots
use Rattle.moves.proofs.rgb.rgb_bytes.Reads as rgb-bytes

move-run-one : OneContent move-run.Post (λ k e. e.0.now)
move-run-one k a x y e f p q = both p q

move-down-one : OneContent move_down.Post (λ k e. e.0.now)
move-down-one k a x y e f p q = both p q

widen-one : OneContent widen.Post (λ k e. e.0.now)
widen-one k a x y e f p q = both p q

turn_one : OneContent turn.Post (λ k e. e.1.1.1.1.0.now)
turn_one k a x y e f p q = both p q

copy-run-one : OneContent copy_run.Post (λ k e. e.1.1.0.now)
copy-run-one k a x y e f p q = both p q

copy-dots-one : OneContent copy-dots.Post (λ k e. e.1.1.0.now)
copy-dots-one k a x y e f p q = both p q

rgb-bytes-one : OneContent rgb-bytes.Post (λ k e. e.1.1.0.now)
rgb-bytes-one k a x y e f p q = both p q
