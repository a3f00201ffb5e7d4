-- Each entry's contract leaves one answer and one content of the buffer that it may write to. Assumes nothing.
use Rattle.numbers.proofs.OneAnswer.{OneAnswer, OneContent, both}
use Rattle.numbers.proofs.Refusals.{one_answer}
use Rattle.drawing.proofs.put.put_pixels.Reads as put-pixels
use Rattle.drawing.proofs.put.put_render_img.Reads as put-render-img
use Rattle.drawing.proofs.rect.draw_rect.Reads as draw-rect
use Rattle.drawing.proofs.rect.put_rect.Reads as put-rect
use Rattle.drawing.proofs.flip.flip_pixels.Reads as flip-pixels
use Rattle.drawing.proofs.border.draw_border.Reads as draw-border

put-pixels-one : OneAnswer put-pixels.Post
put-pixels-one k a x y e f p q = both p.0 q.0

put-pixels-content : OneContent put-pixels.Post (λ k e. e.1.1.1.1.1.1.1.0.now)
put-pixels-content k a x y e f p q = both p.1 q.1

put-render-img-one : OneAnswer put-render-img.Post
put-render-img-one k a x y e f p q = both p.0 q.0

put-render-img-content : OneContent put-render-img.Post (λ k e. e.1.1.1.1.1.1.1.0.now)
put-render-img-content k a x y e f p q = both p.1 q.1

draw-rect-one : OneAnswer draw-rect.Post
draw-rect-one k a x y e f p q = both p.0 q.0

draw-rect-content : OneContent draw-rect.Post (λ k e. e.1.1.1.1.1.1.1.0.now)
draw-rect-content k a x y e f p q = both p.1 q.1

put-rect-one : OneAnswer put-rect.Post
put-rect-one k a x y e f p q = both p.0 q.0

put-rect-content : OneContent put-rect.Post (λ k e. e.1.1.1.1.1.1.0.now)
put-rect-content k a x y e f p q = both p.1 q.1

flip-pixels-one : OneAnswer flip-pixels.Post
flip-pixels-one k a x y e f p q = both p.0 q.0

flip-pixels-content : OneContent flip-pixels.Post (λ k e. e.1.1.1.1.1.0.now)
flip-pixels-content k a x y e f p q = both p.1 q.1

draw-border-one : OneAnswer draw-border.Post
draw-border-one k a x y e f p q = one_answer x y (both p.0 q.0)

draw-border-content : OneContent draw-border.Post (λ k e. e.1.1.1.0.now)
draw-border-content k a x y e f p q = both p.1 q.1
