-- Each public function's contract leaves one answer or one content of the buffer. Assumes nothing.
use Rattle.std.proofs.Common.{◌≡◌, sym, ◌∙◌}
use Rattle.numbers.proofs.OneAnswer.{OneAnswer, OneContent, both}
use Rattle.dots.proofs.dot.get_dot.Reads as get-dot
use Rattle.dots.proofs.dot.load_dot.Reads as load-dot
use Rattle.dots.proofs.dot.set_dot.Reads as set-dot
use Rattle.dots.proofs.dot.store_dot.Reads as store-dot
use Rattle.dots.proofs.fill.fill_run.Reads as fill-run
use Rattle.dots.proofs.fill.FillBrush.draw_dots.Reads as fill-brush
use Rattle.dots.proofs.draw.PenBrush.draw_dots.Reads as pen-brush
use Rattle.dots.proofs.mix.MixBrush.draw_dots.Reads as mix-brush
use Rattle.dots.proofs.multiply.TablesBrush.draw_dots.Reads as tables-brush
use Rattle.dots.proofs.mix.Mix.byte.Reads as mix-byte-of
use Rattle.dots.proofs.mix.Mix.of.Reads as mix-of
use Rattle.dots.proofs.multiply.Tables.of.Reads as tables-of
use Rattle.dots.proofs.draw.draw_run.Reads as draw-run
use Rattle.dots.proofs.draw.needs_tables.Reads as needs-tables
use Rattle.dots.proofs.draw.covers.Reads as covers
use Rattle.dots.proofs.mix.mix_byte.Reads as mix-byte
use Rattle.dots.proofs.mix.mix_factors.Reads as mix-factors
use Rattle.dots.proofs.mix.mix_terms.Reads as mix-terms
use Rattle.dots.proofs.multiply.scale_byte.Reads as scale-byte
use Rattle.dots.proofs.multiply.multiply_table.Reads as multiply-table

get-dot-one : OneAnswer get-dot.Post
get-dot-one k a x y e f p q = both p q

load-dot-one : OneAnswer load-dot.Post
load-dot-one k a x y e f p q = both p q

set-dot-one : OneContent set-dot.Post (λ k e. e.0.now)
set-dot-one k a x y e f p q = both p q

store-dot-one : OneContent store-dot.Post (λ k e. e.0.now)
store-dot-one k a x y e f p q = both p q

fill-run-one : OneContent fill-run.Post (λ k e. e.0.now)
fill-run-one k a x y e f p q = both p q

draw-run-one : OneContent draw-run.Post (λ k e. e.0.now)
draw-run-one k a x y e f p q = both p q

needs-tables-one : OneAnswer needs-tables.Post
needs-tables-one k a x y e f p q = both p q

covers_one : OneAnswer covers.Post
covers_one k a x y e f p q = both p q

mix-byte-one : OneAnswer mix-byte.Post
mix-byte-one k a x y e f p q = both p q

mix-factors-one : OneAnswer mix-factors.Post
mix-factors-one k a x y e f p q = both p q

mix-terms-one : OneAnswer mix-terms.Post
mix-terms-one k a x y e f p q = both p q

scale-byte-one : OneAnswer scale-byte.Post
scale-byte-one k a x y e f p q = both p q

multiply-table-one : OneAnswer multiply-table.Post
multiply-table-one k a x y e f p q = both p q

fill-brush-one : OneContent fill-brush.Post (λ k e. e.1.0.now)
fill-brush-one k a x y e f p q = both p q

pen-brush-one : OneContent pen-brush.Post (λ k e. e.1.0.now)
pen-brush-one k a x y e f p q = both p q

mix-brush-one : OneContent mix-brush.Post (λ k e. e.1.0.now)
mix-brush-one k a x y e f p q = both p q

tables-brush-one : OneContent tables-brush.Post (λ k e. e.1.0.now)
tables-brush-one k a x y e f p q = both p q

mix-byte-of-one : OneAnswer mix-byte-of.Post
mix-byte-of-one k a x y e f p q = both p q

-- a mix and tables hold their colour, and by their ghost fields nothing but what is made for it
mix-of-one : (k : _) (a : _) (x y : _) (e f : _) → mix-of.Post k a x e → mix-of.Post k a y f
    → (x.color ≡ y.color) × (x.multiply ≡ y.multiply) × (x.factor.now ≡ y.factor.now) × (x.term.now ≡ y.term.now)
mix-of-one k a x y e f p q =
    let c = both p.0 q.0 in
    let m = both p.1 q.1 in
    (c, m, x.made.0 ∙ rw (c, m) (sym y.made.0), x.made.1 ∙ rw (c, m) (sym y.made.1))

tables-of-one : (k : _) (a : _) (x y : _) (e f : _) → tables-of.Post k a x e → tables-of.Post k a y f
    → (x.color ≡ y.color) × (x.r ≡ y.r) × (x.g ≡ y.g) × (x.b ≡ y.b)
tables-of-one k a x y e f p q =
    let c = both p q in
    (c, x.made.0 ∙ rw c (sym y.made.0), x.made.1 ∙ rw c (sym y.made.1), x.made.2 ∙ rw c (sym y.made.2))
