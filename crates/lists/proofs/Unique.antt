-- The public function's contract leaves one answer and one content of the row buffer. Assumes nothing.
use Rattle.numbers.proofs.OneAnswer.{OneAnswer, OneContent, both}
use Rattle.lists.proofs.row_of_entries.Reads as row-of-entries

row-of-entries-one : OneAnswer row-of-entries.Post
row-of-entries-one k a x y e f p q = both p.0 q.0

row-of-entries-content : OneContent row-of-entries.Post (λ k e. e.1.1.1.1.1.1.0.now)
row-of-entries-content k a x y e f p q = both p.1 q.1
