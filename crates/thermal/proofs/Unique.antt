-- Each exported function's contract leaves one answer and one content of what is lent. Assumes nothing.
use Rattle.numbers.proofs.OneAnswer.{OneAnswer, OneContent, both}
use Rattle.thermal.proofs.colours.thermal_with_alpha.Reads as with-alpha
use Rattle.thermal.proofs.colours.thermal_blend_foreground.Reads as blend-foreground
use Rattle.thermal.proofs.colours.thermal_blend_foreground_with_alpha.Reads as blend-foreground-with-alpha
use Rattle.thermal.proofs.colours.thermal_multiply_foreground.Reads as multiply-foreground
use Rattle.thermal.proofs.colours.thermal_color_for_number.Reads as color-for-number
use Rattle.thermal.proofs.colours.thermal_draw_dots.Reads as draw-dots
use Rattle.thermal.proofs.decoders.thermal_image_from_raster_bytes_single_color.Reads as raster
use Rattle.thermal.proofs.decoders.thermal_image_from_column_bytes_single_color.Reads as column
use Rattle.thermal.proofs.decoders.thermal_image_from_raster_bytes_multi_color.Reads as layers
use Rattle.thermal.proofs.canvas.thermal_new.Reads as new-canvas
use Rattle.thermal.proofs.canvas.thermal_get_height.Reads as get-height
use Rattle.thermal.proofs.canvas.thermal_expand_to_height.Reads as expand-to-height
use Rattle.thermal.proofs.canvas.thermal_add_top_margin.Reads as add-top-margin
use Rattle.thermal.proofs.canvas.thermal_expand_to_width.Reads as expand-to-width
use Rattle.thermal.proofs.canvas.thermal_set_width.Reads as set-width
use Rattle.thermal.proofs.canvas.thermal_empty.Reads as empty
use Rattle.thermal.proofs.canvas.thermal_reset.Reads as reset
use Rattle.thermal.proofs.canvas.thermal_copy.Reads as copy-out
use Rattle.thermal.proofs.canvas.thermal_consume_rgb_u8.Reads as consume-rgb
use Rattle.thermal.proofs.canvas.thermal_rotate_90.Reads as rotate-90
use Rattle.thermal.proofs.canvas.thermal_rotate_180.Reads as rotate-180
use Rattle.thermal.proofs.canvas.thermal_rotate_270.Reads as rotate-270
use Rattle.thermal.proofs.draw.thermal_put_pixels.Reads as put-pixels
use Rattle.thermal.proofs.draw.thermal_draw_rect.Reads as draw-rect
use Rattle.thermal.proofs.draw.thermal_put_rect.Reads as put-rect
use Rattle.thermal.proofs.draw.thermal_put_render_img.Reads as put-render-img
use Rattle.thermal.proofs.draw.thermal_flip_pixels.Reads as flip-pixels
use Rattle.thermal.proofs.draw.thermal_draw_border.Reads as draw-border
use Rattle.thermal.proofs.jobs.thermal_run.Reads as run
use Rattle.thermal.proofs.jobs.thermal_translate.Reads as translate
use Rattle.thermal.proofs.jobs.thermal_row.Reads as row
use Rattle.thermal.proofs.jobs.thermal_rows.Reads as rows

with-alpha-one : OneAnswer with-alpha.Post
with-alpha-one k a x y e f p q = both p q

blend-foreground-one : OneAnswer blend-foreground.Post
blend-foreground-one k a x y e f p q = both p q

blend-foreground-with-alpha-one : OneAnswer blend-foreground-with-alpha.Post
blend-foreground-with-alpha-one k a x y e f p q = both p q

multiply-foreground-one : OneAnswer multiply-foreground.Post
multiply-foreground-one k a x y e f p q = both p q

color-for-number-one : OneAnswer color-for-number.Post
color-for-number-one k a x y e f p q = both p q

draw-dots-one : OneContent draw-dots.Post (λ k e. e.0.now)
draw-dots-one k a x y e f p q = both p q

raster-one : OneAnswer raster.Post
raster-one k a x y e f p q = both p.0 q.0

raster-output : OneContent raster.Post (λ k e. e.1.1.1.1.1.1.1.0.now)
raster-output k a x y e f p q = both p.1 q.1

column-one : OneAnswer column.Post
column-one k a x y e f p q = both p.0 q.0

column-output : OneContent column.Post (λ k e. e.1.1.1.1.1.1.0.now)
column-output k a x y e f p q = both p.1 q.1

layers-one : OneAnswer layers.Post
layers-one k a x y e f p q = both p.0 q.0

layers-output : OneContent layers.Post (λ k e. e.1.1.1.1.1.1.1.1.0.now)
layers-output k a x y e f p q = both p.1 q.1

new-canvas-one : OneAnswer new-canvas.Post
new-canvas-one k a x y e f p q = both p q

get-height-one : OneAnswer get-height.Post
get-height-one k a x y e f p q = both p q

expand-to-height-one : OneAnswer expand-to-height.Post
expand-to-height-one k a x y e f p q = both p.0 q.0

expand-to-height-content : OneContent expand-to-height.Post (λ k e. e.1.1.0.now)
expand-to-height-content k a x y e f p q = both p.1 q.1

add-top-margin-one : OneAnswer add-top-margin.Post
add-top-margin-one k a x y e f p q = both p.0 q.0

add-top-margin-content : OneContent add-top-margin.Post (λ k e. e.1.1.0.now)
add-top-margin-content k a x y e f p q = both p.1 q.1

expand-to-width-one : OneAnswer expand-to-width.Post
expand-to-width-one k a x y e f p q = both p.0 q.0

expand-to-width-content : OneContent expand-to-width.Post (λ k e. e.1.1.0.now)
expand-to-width-content k a x y e f p q = both p.1 q.1

set-width-one : OneAnswer set-width.Post
set-width-one k a x y e f p q = both p q

empty-one : OneAnswer empty.Post
empty-one k a x y e f p q = both p q

reset-one : OneAnswer reset.Post
reset-one k a x y e f p q = both p q

copy-out-one : OneAnswer copy-out.Post
copy-out-one k a x y e f p q = both p.0 q.0

copy-out-output : OneContent copy-out.Post (λ k e. e.1.1.0.now)
copy-out-output k a x y e f p q = both p.1 q.1

consume-rgb-one : OneAnswer consume-rgb.Post
consume-rgb-one k a x y e f p q = both p.0 q.0

consume-rgb-output : OneContent consume-rgb.Post (λ k e. e.1.1.0.now)
consume-rgb-output k a x y e f p q = both p.1 q.1

rotate-90-one : OneAnswer rotate-90.Post
rotate-90-one k a x y e f p q = both p.0 q.0

rotate-90-output : OneContent rotate-90.Post (λ k e. e.1.1.0.now)
rotate-90-output k a x y e f p q = both p.1 q.1

rotate-180-one : OneAnswer rotate-180.Post
rotate-180-one k a x y e f p q = both p.0 q.0

rotate-180-output : OneContent rotate-180.Post (λ k e. e.1.1.0.now)
rotate-180-output k a x y e f p q = both p.1 q.1

rotate-270-one : OneAnswer rotate-270.Post
rotate-270-one k a x y e f p q = both p.0 q.0

rotate-270-output : OneContent rotate-270.Post (λ k e. e.1.1.0.now)
rotate-270-output k a x y e f p q = both p.1 q.1

put-pixels-one : OneAnswer put-pixels.Post
put-pixels-one k a x y e f p q = both p.0 q.0

put-pixels-content : OneContent put-pixels.Post (λ k e. e.1.1.1.1.1.1.1.0.now)
put-pixels-content k a x y e f p q = both p.1 q.1

draw-rect-one : OneAnswer draw-rect.Post
draw-rect-one k a x y e f p q = both p.0 q.0

draw-rect-content : OneContent draw-rect.Post (λ k e. e.1.1.1.1.1.1.1.0.now)
draw-rect-content k a x y e f p q = both p.1 q.1

put-rect-one : OneAnswer put-rect.Post
put-rect-one k a x y e f p q = both p.0 q.0

put-rect-content : OneContent put-rect.Post (λ k e. e.1.1.1.1.1.1.0.now)
put-rect-content k a x y e f p q = both p.1 q.1

put-render-img-one : OneAnswer put-render-img.Post
put-render-img-one k a x y e f p q = both p.0 q.0

put-render-img-content : OneContent put-render-img.Post (λ k e. e.1.1.1.1.1.1.1.0.now)
put-render-img-content k a x y e f p q = both p.1 q.1

flip-pixels-one : OneAnswer flip-pixels.Post
flip-pixels-one k a x y e f p q = both p.0 q.0

flip-pixels-content : OneContent flip-pixels.Post (λ k e. e.1.1.1.1.1.0.now)
flip-pixels-content k a x y e f p q = both p.1 q.1

draw-border-one : OneAnswer draw-border.Post
draw-border-one k a x y e f p q = both p.0 q.0

draw-border-content : OneContent draw-border.Post (λ k e. e.1.1.1.0.now)
draw-border-content k a x y e f p q = both p.1 q.1

run-one : OneAnswer run.Post
run-one k a x y e f p q = both p.0 q.0

run-content : OneContent run.Post (λ k e. e.1.0.now)
run-content k a x y e f p q = both p.1 q.1

translate-one : OneAnswer translate.Post
translate-one k a x y e f p q = both p q

row_one : OneAnswer row.Post
row_one k a x y e f p q = both p.0 q.0

row-content : OneContent row.Post (λ k e. e.1.1.1.0.now)
row-content k a x y e f p q = both p.1 q.1

rows-one : OneAnswer rows.Post
rows-one k a x y e f p q = both p.0 q.0

rows-content : OneContent rows.Post (λ k e. e.1.1.1.1.0.now)
rows-content k a x y e f p q = both p.1 q.1
