-- Each public function's contract leaves one answer or one content of the buffer. Assumes nothing.
use Rattle.numbers.proofs.OneAnswer.{OneAnswer, OneContent, both}
use Rattle.areas.proofs.area.Area.start_of.Reads as start-of
use Rattle.areas.proofs.draw.draw_area.Reads as draw-area
use Rattle.areas.proofs.put.put_area.Reads as put-area
use Rattle.areas.proofs.flip.flip_area.Reads as flip-area
use Rattle.areas.proofs.border.border_area.Reads as border-area

start-of-one : OneAnswer start-of.Post
start-of-one k a x y e f p q = both p q

draw-area-one : OneContent draw-area.Post (λ k e. e.0.now)
draw-area-one k a x y e f p q = both p q

put-area-one : OneContent put-area.Post (λ k e. e.0.now)
put-area-one k a x y e f p q = both p q

flip-area-one : OneContent flip-area.Post (λ k e. e.0.now)
flip-area-one k a x y e f p q = both p q

border-area-one : OneContent border-area.Post (λ k e. e.0.now)
border-area-one k a x y e f p q = both p q
