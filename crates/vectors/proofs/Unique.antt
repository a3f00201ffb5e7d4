-- Each public function's contract leaves one answer, or one content of the lent buffer. Assumes nothing.
use Rattle.std.specs.Prelude.{◌≡◌, Ok}
use Rattle.numbers.proofs.OneAnswer.{OneAnswer, OneAnswerWhere, OneContent, both}
use Rattle.vectors.proofs.buffers.fresh_buffer.Reads as fresh-buffer
use Rattle.vectors.proofs.buffers.list_space.Reads as list-space
use Rattle.vectors.proofs.hex.byte_at.Reads as byte_at
use Rattle.vectors.proofs.hex.number_at.Reads as number_at
use Rattle.vectors.proofs.hex.color_at.Reads as color-at
use Rattle.vectors.proofs.hex.unpack.Reads as unpack
use Rattle.vectors.proofs.hex.is_record.Reads as is-record
use Rattle.vectors.proofs.lines.line_end.Reads as line-end
use Rattle.vectors.proofs.lines.Tally.with.Reads as with-line
use Rattle.vectors.proofs.lines.Tally.tell.Reads as tell
use Rattle.vectors.proofs.seeds.fill_from.Reads as fill-from
use Rattle.vectors.proofs.sums.sum_with.Reads as sum-with
use Rattle.vectors.proofs.sums.checksum.Reads as checksum
use Rattle.vectors.proofs.sums.sum_all.Reads as sum-all
use Rattle.vectors.proofs.replay.replay.Reads as replay

fresh-buffer-one : OneAnswer fresh-buffer.Post
fresh-buffer-one k a x y e f p q = both p q

list-space-one : OneAnswer list-space.Post
list-space-one k a x y e f p q = both p q

byte-at-one : OneAnswer byte_at.Post
byte-at-one k a x y e f p q = both p q

number-at-one : OneAnswer number_at.Post
number-at-one k a x y e f p q = both p q

color-at-one : OneAnswer color-at.Post
color-at-one k a x y e f p q = both p q

unpack-content : OneContent unpack.Post (λ k e. e.1.1.1.0.now)
unpack-content k a x y e f p q = both p q

is-record-one : OneAnswer is-record.Post
is-record-one k a x y e f p q = both p q

line-end-one : OneAnswer line-end.Post
line-end-one k a x y e f p q = both p.0 q.0

with-one : OneAnswer with-line.Post
with-one k a x y e f p q = both p q

-- a unit has one value; what is written, and when a write fails, is nowhere said
tell-one : OneAnswerWhere (λ k r. r ≡ Ok tt) tell.Post
tell-one k a x y e f p q u v = both u v

fill-from-content : OneContent fill-from.Post (λ k e. e.0.now)
fill-from-content k a x y e f p q = both p q

sum-with-one : OneAnswer sum-with.Post
sum-with-one k a x y e f p q = both p q

checksum-one : OneAnswer checksum.Post
checksum-one k a x y e f p q = both p q

sum-all-one : OneAnswer sum-all.Post
sum-all-one k a x y e f p q = both p q

-- as with `tell`
replay-one : (F : _) (laws : _) (g : _) (one two three : _) → OneAnswerWhere (λ k r. r ≡ Ok tt) (replay.Post F laws g one two three)
replay-one F laws g one two three k a x y e f p q u v = both u v
