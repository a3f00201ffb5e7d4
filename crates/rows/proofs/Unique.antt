-- Each public function's contract leaves one answer, and those of `draw_rows`, `row` and `rows` one content of the buffer. Assumes nothing.
use Rattle.numbers.proofs.OneAnswer.{OneAnswer, OneContent, both}
use Rattle.numbers.proofs.Refusals.{one_answer}
use Rattle.rows.proofs.good_sizes.Reads as good-sizes
use Rattle.rows.proofs.RowAnswer.refused.Reads as refused
use Rattle.rows.proofs.refusal_of.Reads as refusal-of
use Rattle.rows.proofs.ink_of.Reads as ink-of
use Rattle.rows.proofs.good_entries.Reads as good-entries
use Rattle.rows.proofs.draw_rows.Reads as draw-rows
use Rattle.rows.proofs.row.Reads as row
use Rattle.rows.proofs.rows.Reads as rows

good-sizes-one : OneAnswer good-sizes.Post
good-sizes-one k a x y e f p q = both p q

refusal-of-one : OneAnswer refusal-of.Post
refusal-of-one k a x y e f p q = one_answer x y (both p q)

ink-of-one : OneAnswer ink-of.Post
ink-of-one k a x y e f p q = both p q

row_one : OneAnswer row.Post
row_one k a x y e f p q = both p.0 q.0

row-content : OneContent row.Post (λ k e. e.1.1.1.0.now)
row-content k a x y e f p q = both p.1 q.1

rows-one : OneAnswer rows.Post
rows-one k a x y e f p q = one_answer x y (both p.0 q.0)

rows-content : OneContent rows.Post (λ k e. e.1.1.1.1.0.now)
rows-content k a x y e f p q = both p.1 q.1

refused-one : OneAnswer refused.Post
refused-one k a x y e f p q = both p q

good-entries-one : OneAnswer good-entries.Post
good-entries-one k a x y e f p q = both p q

draw-rows-content : OneContent draw-rows.Post (λ k e. e.1.1.1.1.1.1.0.now)
draw-rows-content k a x y e f p q = both p q
