-- Each public function's contract leaves one answer or one content of the buffer. Assumes nothing.
use Rattle.numbers.proofs.OneAnswer.{OneAnswer, OneContent, both}
use Rattle.entries.proofs.Entry.rectangle.Reads as rectangle
use Rattle.entries.proofs.Entry.image.Reads as image
use Rattle.entries.proofs.rules.good_entry.Reads as good-entry
use Rattle.entries.proofs.draw_entry.Reads as draw-entry

rectangle-one : OneAnswer rectangle.Post
rectangle-one k a x y e f p q = both p q

image-one : OneAnswer image.Post
image-one k a x y e f p q = both p q

good-entry-one : OneAnswer good-entry.Post
good-entry-one k a x y e f p q = both p q

draw-entry-one : OneContent draw-entry.Post (λ k e. e.0.now)
draw-entry-one k a x y e f p q = both p q
