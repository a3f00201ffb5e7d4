use Rattle.std.proofs.Common.{◌≡◌, ◌*◌, ◌∙◌, refl, arith, rules}
use Rattle.dots.proofs.Mixed.{bytes-of, byte-mixed, mix-turn, mix-end}
use Rattle.dots.proofs.mix.mix_some.Goals as goal

pub loop-j-preserved : goal.loop-j-preserved
loop-j-preserved c =
    let m = c.args.mix.now in
    let l = c.loop-j in
    mix-turn _ _ (c.args.at * 4) l.j c.args.buf.now l.buf _ (omega arith) l.invariant (c.byte.ensures ∙ byte-mixed m.multiply m.color _ (bytes-of m.color m.bytes) (omega arith) m.whole l.j (omega arith))

pub returns : goal.returns
returns c =
    let a = c.args in
    let m = a.mix.now in
    let e : c.loop-j.j ≡ a.count * 4 = omega arith in
    mix-end _ _ a.at a.count m.multiply m.color a.buf.now c.loop-j.buf (bytes-of m.color m.bytes) (search rules) m.whole refl refl (omega arith) (omega arith) (rw e at c.loop-j.invariant)
