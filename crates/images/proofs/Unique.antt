-- Each public function's contract leaves one answer and one content of the output. Assumes nothing.
use Rattle.numbers.proofs.OneAnswer.{OneAnswer, OneContent, both}
use Rattle.images.proofs.formats.raster_of.Reads as raster-of
use Rattle.images.proofs.scale.Source.in_color.Reads as in-color
use Rattle.images.proofs.scale.decode_single_color.Reads as decode-single-color
use Rattle.images.proofs.sizes.factor_of.Reads as factor-of
use Rattle.images.proofs.sizes.is_large.Reads as is-large
use Rattle.images.proofs.sizes.bytes_of.Reads as bytes_of

raster-of-one : OneAnswer raster-of.Post
raster-of-one k a x y e f p q = both p q

decode-single-color-output : OneContent decode-single-color.Post (λ k e. e.0.now)
decode-single-color-output k a x y e f p q = both p q

in-color-one : OneAnswer in-color.Post
in-color-one k a x y e f p q = both p q

factor-of-one : OneAnswer factor-of.Post
factor-of-one k a x y e f p q = both p q

is-large-one : OneAnswer is-large.Post
is-large-one k a x y e f p q = both p q

bytes-of-one : OneAnswer bytes_of.Post
bytes-of-one k a x y e f p q = both p q
