use Rattle.std.proofs.Common.{◌≡◌, ◌-◌, ◌*◌, ◌/◌, ◌^◌, ◌+◌, ◌∙◌, refl, get_or, arith, rules}
use Rattle.dots.specs.Dots.{tab}
use Rattle.dots.proofs.Mixed.{Bytes}
use Rattle.bits.proofs.Stamping.{byte-stamped, stamp-turn, stamp-end}
use Rattle.bits.proofs.stamp.StampBitBrush.draw_byte.Goals as goal

pub loop-j-preserved : goal.loop-j-preserved
unfolding tab
loop-j-preserved c =
    let a = c.args in
    let l = c.loop-j in
    let p : Bytes a.self.color = record { r = omega arith; g = omega arith; b = omega arith; a = omega arith } in
    stamp-turn a.byte (tab 32 (λ j. 2 ^ (7 - j / 4))) _ _ (a.at * 4) l.j a.buf.now l.buf _ (omega arith) l.invariant (c.byte.ensures ∙ byte-stamped _ a.self.mix.multiply a.self.color (get_or l.buf (a.at * 4 + l.j) 0) l.j p (omega arith) (omega arith))

pub returns : goal.returns
unfolding tab
returns c =
    let a = c.args in
    let p : Bytes a.self.color = record { r = omega arith; g = omega arith; b = omega arith; a = omega arith } in
    let e : c.loop-j.j ≡ a.n * 4 = omega arith in
    stamp-end a.byte (tab 32 (λ j. 2 ^ (7 - j / 4))) _ _ a.self.mix.multiply a.self.color p refl refl a.at a.n a.buf.now c.loop-j.buf (search rules) refl (omega arith) (omega arith) (rw e at c.loop-j.invariant)
