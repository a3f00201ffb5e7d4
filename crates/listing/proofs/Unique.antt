-- Each public function's contract leaves one answer and one content of the lent buffer. Assumes nothing.
use Rattle.std.proofs.Common.{ℕ, ◌≡◌, sym, ap}
use Rattle.std.specs.Prelude.{Result, Ok, Err}
use Rattle.numbers.specs.declared.refusal.Refusal.{Refusal}
use Rattle.numbers.proofs.Refusals.{never, one_refusal}
use Rattle.listing.specs.Listing.{Written, written}
use Rattle.numbers.proofs.OneAnswer.{OneAnswer, OneAnswerWhere, OneContent, both}
use Rattle.listing.proofs.list_job.Reads as list-job
use Rattle.listing.proofs.first_line.Reads as first-line
use Rattle.listing.proofs.row_line.Reads as row-line
use Rattle.listing.proofs.writing.digits_of.Reads as digits_of
use Rattle.listing.proofs.writing.put_part.Reads as put-part
use Rattle.listing.proofs.printing.print_listing.Reads as print-listing

-- what is written tells what was answered
same-result : (x y : Result ℕ Refusal) → written x ≡ written y → x ≡ y
same-result (Ok m) (Ok n) e = ap Ok (ap (λ (w : Written). w.size) e)
same-result (Ok m) (Err b) e = absurd (never b (sym (ap (λ (w : Written). w.number) e)))
same-result (Err a) (Ok n) e = absurd (never a (ap (λ (w : Written). w.number) e))
same-result (Err a) (Err b) e = ap Err (one_refusal a b (ap (λ (w : Written). w.number) e))

list-job-one : OneAnswer list-job.Post
list-job-one k a x y e f p q = both p q

first-line-one : OneAnswer first-line.Post
first-line-one k a x y e f p q = same-result x y (both p.0 q.0)

first-line-content : OneContent first-line.Post (λ k e. e.1.0.now)
first-line-content k a x y e f p q = both p.1 q.1

row-line-one : OneAnswer row-line.Post
row-line-one k a x y e f p q = same-result x y (both p.0 q.0)

row-line-content : OneContent row-line.Post (λ k e. e.1.1.0.now)
row-line-content k a x y e f p q = both p.1 q.1

digits-of-one : OneAnswer digits_of.Post
digits-of-one k a x y e f p q = both p.0 q.0

put-part-one : OneAnswer put-part.Post
put-part-one k a x y e f p q = both p.0 q.0

put-part-content : OneContent put-part.Post (λ k e. e.1.1.1.0.now)
put-part-content k a x y e f p q = both p.1 q.1

-- a unit has one value; what is written, and when a write fails, is nowhere said
print-listing-one : OneAnswerWhere (λ k r. r ≡ Ok tt) print-listing.Post
print-listing-one k a x y e f p q u v = both u v
