-- Each public function's contract leaves one answer and one content of the output. Assumes nothing.
use Rattle.numbers.proofs.OneAnswer.{OneAnswer, OneContent, both}
use Rattle.graphics.proofs.image_from_raster_bytes_single_color.Reads as raster
use Rattle.graphics.proofs.image_from_column_bytes_single_color.Reads as column
use Rattle.graphics.proofs.image_from_raster_bytes_multi_color.Reads as layers

raster-one : OneAnswer raster.Post
raster-one k a x y e f p q = both p.0 q.0

raster-output : OneContent raster.Post (λ k e. e.1.1.1.1.1.1.1.0.now)
raster-output k a x y e f p q = both p.1 q.1

column-one : OneAnswer column.Post
column-one k a x y e f p q = both p.0 q.0

column-output : OneContent column.Post (λ k e. e.1.1.1.1.1.1.0.now)
column-output k a x y e f p q = both p.1 q.1

layers-one : OneAnswer layers.Post
layers-one k a x y e f p q = both p.0 q.0

layers-output : OneContent layers.Post (λ k e. e.1.1.1.1.1.1.1.1.0.now)
layers-output k a x y e f p q = both p.1 q.1
