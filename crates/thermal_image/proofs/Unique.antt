-- The contract of each entry leaves one answer and one content of the buffer that it may write to. Assumes nothing.
use Rattle.numbers.proofs.OneAnswer.{OneAnswer, OneContent, both}
use Rattle.thermal_image.proofs.ThermalImage.new.Reads as new
use Rattle.thermal_image.proofs.ThermalImage.refused.Reads as refused
use Rattle.thermal_image.proofs.ThermalImage.get_height.Reads as get-height
use Rattle.thermal_image.proofs.ThermalImage.expand_to_height.Reads as expand-to-height
use Rattle.thermal_image.proofs.ThermalImage.add_top_margin.Reads as add-top-margin
use Rattle.thermal_image.proofs.ThermalImage.expand_to_width.Reads as expand-to-width
use Rattle.thermal_image.proofs.ThermalImage.set_width.Reads as set-width
use Rattle.thermal_image.proofs.ThermalImage.empty.Reads as empty
use Rattle.thermal_image.proofs.ThermalImage.reset.Reads as reset
use Rattle.thermal_image.proofs.ThermalImage.copy.Reads as copy
use Rattle.thermal_image.proofs.ThermalImage.consume_rgb_u8.Reads as consume-rgb-u8
use Rattle.thermal_image.proofs.ThermalImage.rotate_90.Reads as rotate-90
use Rattle.thermal_image.proofs.ThermalImage.rotate_180.Reads as rotate-180
use Rattle.thermal_image.proofs.ThermalImage.rotate_270.Reads as rotate-270

new-one : OneAnswer new.Post
new-one k a x y e f p q = both p q

refused-one : OneAnswer refused.Post
refused-one k a x y e f p q = both p q

get-height-one : OneAnswer get-height.Post
get-height-one k a x y e f p q = both p q

expand-to-height-one : OneAnswer expand-to-height.Post
expand-to-height-one k a x y e f p q = both p.0 q.0

expand-to-height-content : OneContent expand-to-height.Post (λ k e. e.1.1.0.now)
expand-to-height-content k a x y e f p q = both p.1 q.1

add-top-margin-one : OneAnswer add-top-margin.Post
add-top-margin-one k a x y e f p q = both p.0 q.0

add-top-margin-content : OneContent add-top-margin.Post (λ k e. e.1.1.0.now)
add-top-margin-content k a x y e f p q = both p.1 q.1

expand-to-width-one : OneAnswer expand-to-width.Post
expand-to-width-one k a x y e f p q = both p.0 q.0

expand-to-width-content : OneContent expand-to-width.Post (λ k e. e.1.1.0.now)
expand-to-width-content k a x y e f p q = both p.1 q.1

set-width-one : OneAnswer set-width.Post
set-width-one k a x y e f p q = both p q

empty-one : OneAnswer empty.Post
empty-one k a x y e f p q = both p q

reset-one : OneAnswer reset.Post
reset-one k a x y e f p q = both p q

copy-one : OneAnswer copy.Post
copy-one k a x y e f p q = both p.0 q.0

copy-content : OneContent copy.Post (λ k e. e.1.1.0.now)
copy-content k a x y e f p q = both p.1 q.1

consume-rgb-u8-one : OneAnswer consume-rgb-u8.Post
consume-rgb-u8-one k a x y e f p q = both p.0 q.0

consume-rgb-u8-content : OneContent consume-rgb-u8.Post (λ k e. e.1.1.0.now)
consume-rgb-u8-content k a x y e f p q = both p.1 q.1

rotate-90-one : OneAnswer rotate-90.Post
rotate-90-one k a x y e f p q = both p.0 q.0

rotate-90-content : OneContent rotate-90.Post (λ k e. e.1.1.0.now)
rotate-90-content k a x y e f p q = both p.1 q.1

rotate-180-one : OneAnswer rotate-180.Post
rotate-180-one k a x y e f p q = both p.0 q.0

rotate-180-content : OneContent rotate-180.Post (λ k e. e.1.1.0.now)
rotate-180-content k a x y e f p q = both p.1 q.1

rotate-270-one : OneAnswer rotate-270.Post
rotate-270-one k a x y e f p q = both p.0 q.0

rotate-270-content : OneContent rotate-270.Post (λ k e. e.1.1.0.now)
rotate-270-content k a x y e f p q = both p.1 q.1
