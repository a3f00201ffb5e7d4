-- Each public function's contract leaves one answer. Assumes nothing.
use Rattle.numbers.proofs.OneAnswer.{OneAnswer, both}
use Rattle.colour.proofs.channel.blend_channel.Reads as blend-channel
use Rattle.colour.proofs.channel.multiply_channel.Reads as multiply-channel
use Rattle.colour.proofs.RGBA.blank.Reads as blank
use Rattle.colour.proofs.RGBA.white.Reads as white
use Rattle.colour.proofs.RGBA.with_alpha.Reads as with-alpha
use Rattle.colour.proofs.RGBA.blend_foreground.Reads as blend-foreground
use Rattle.colour.proofs.RGBA.blend_foreground_with_alpha.Reads as blend-foreground-with-alpha
use Rattle.colour.proofs.RGBA.multiply_foreground.Reads as multiply-foreground
use Rattle.colour.proofs.RenderColors.color_for_number.Reads as color-for-number

blend-channel-one : OneAnswer blend-channel.Post
blend-channel-one k a x y e f p q = both p q

multiply-channel-one : OneAnswer multiply-channel.Post
multiply-channel-one k a x y e f p q = both p.value q.value

blank-one : OneAnswer blank.Post
blank-one k a x y e f p q = both p q

white-one : OneAnswer white.Post
white-one k a x y e f p q = both p q

with-alpha-one : OneAnswer with-alpha.Post
with-alpha-one k a x y e f p q = both p q

blend-foreground-one : OneAnswer blend-foreground.Post
blend-foreground-one k a x y e f p q = both p q

blend-foreground-with-alpha-one : OneAnswer blend-foreground-with-alpha.Post
blend-foreground-with-alpha-one k a x y e f p q = both p q

multiply-foreground-one : OneAnswer multiply-foreground.Post
multiply-foreground-one k a x y e f p q = both p q

color-for-number-one : OneAnswer color-for-number.Post
color-for-number-one k a x y e f p q = both p q
