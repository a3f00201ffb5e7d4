-- The contract of each step leaves one answer. Assumes nothing.
use Rattle.numbers.proofs.OneAnswer.{OneAnswer, both}
use Rattle.numbers.proofs.Refusals.{one_answer}
use Rattle.refusals.proofs.rows_of.Reads as rows-of
use Rattle.refusals.proofs.tall_refusal.Reads as tall-refusal
use Rattle.refusals.proofs.wide_refusal.Reads as wide-refusal
use Rattle.refusals.proofs.room_refusal.Reads as room-refusal
use Rattle.refusals.proofs.drawn.side_refusal.Reads as side-refusal
use Rattle.refusals.proofs.drawn.off_refusal.Reads as off-refusal
use Rattle.refusals.proofs.drawn.across_refusal.Reads as across-refusal
use Rattle.refusals.proofs.drawn.empty_refusal.Reads as empty-refusal
use Rattle.refusals.proofs.canvas_refusal.Reads as canvas-refusal
use Rattle.refusals.proofs.grow_refusal.Reads as grow-refusal
use Rattle.refusals.proofs.margin_refusal.Reads as margin-refusal
use Rattle.refusals.proofs.width_refusal.Reads as width-refusal
use Rattle.refusals.proofs.widen_refusal.Reads as widen-refusal
use Rattle.refusals.proofs.out_refusal.Reads as out-refusal
use Rattle.refusals.proofs.rgb_refusal.Reads as rgb-refusal

rows-of-one : OneAnswer rows-of.Post
rows-of-one k a x y e f p q = both p q

tall-refusal-one : OneAnswer tall-refusal.Post
tall-refusal-one k a x y e f p q = one_answer x y (both p q)

wide-refusal-one : OneAnswer wide-refusal.Post
wide-refusal-one k a x y e f p q = one_answer x y (both p q)

room-refusal-one : OneAnswer room-refusal.Post
room-refusal-one k a x y e f p q = one_answer x y (both p q)

side-refusal-one : OneAnswer side-refusal.Post
side-refusal-one k a x y e f p q = one_answer x y (both p q)

off-refusal-one : OneAnswer off-refusal.Post
off-refusal-one k a x y e f p q = one_answer x y (both p q)

across-refusal-one : OneAnswer across-refusal.Post
across-refusal-one k a x y e f p q = one_answer x y (both p q)

empty-refusal-one : OneAnswer empty-refusal.Post
empty-refusal-one k a x y e f p q = one_answer x y (both p q)

canvas-refusal-one : OneAnswer canvas-refusal.Post
canvas-refusal-one k a x y e f p q = one_answer x y (both p q)

grow-refusal-one : OneAnswer grow-refusal.Post
grow-refusal-one k a x y e f p q = one_answer x y (both p q)

margin-refusal-one : OneAnswer margin-refusal.Post
margin-refusal-one k a x y e f p q = one_answer x y (both p q)

width-refusal-one : OneAnswer width-refusal.Post
width-refusal-one k a x y e f p q = one_answer x y (both p q)

widen-refusal-one : OneAnswer widen-refusal.Post
widen-refusal-one k a x y e f p q = one_answer x y (both p q)

out-refusal-one : OneAnswer out-refusal.Post
out-refusal-one k a x y e f p q = one_answer x y (both p q)

rgb-refusal-one : OneAnswer rgb-refusal.Post
rgb-refusal-one k a x y e f p q = one_answer x y (both p q)
