-- Each public function's contract leaves one answer or one content of the buffer. Assumes nothing.
use Rattle.std.proofs.Common.{◌≡◌, sym, ◌∙◌}
use Rattle.numbers.proofs.OneAnswer.{OneContent, both}
use Rattle.bits.proofs.row.draw_bits.Reads as draw-bits
use Rattle.bits.proofs.unpack.PutBitBrush.draw_byte.Reads as put-byte
use Rattle.bits.proofs.unpack.PutBitBrush.draw_bit.Reads as put-bit
use Rattle.bits.proofs.stamp.StampBitBrush.draw_byte.Reads as stamp-byte
use Rattle.bits.proofs.stamp.StampBitBrush.draw_bit.Reads as stamp-bit
use Rattle.bits.proofs.stamp.Stamp.of.Reads as stamp-of

-- with any brush
draw-bits-one : (T : _) (L : _) (B : _) (D : _) (C : _) (E : _) (F : _) → OneContent (draw-bits.Post T L B D C E F) (λ k e. e.0.now)
draw-bits-one T L B D C E F k a x y e f p q = both p q

put-byte-one : OneContent put-byte.Post (λ k e. e.1.0.now)
put-byte-one k a x y e f p q = both p q

put-bit-one : OneContent put-bit.Post (λ k e. e.1.0.now)
put-bit-one k a x y e f p q = both p q

stamp-byte-one : OneContent stamp-byte.Post (λ k e. e.1.0.now)
stamp-byte-one k a x y e f p q = both p q

stamp-bit-one : OneContent stamp-bit.Post (λ k e. e.1.0.now)
stamp-bit-one k a x y e f p q = both p q

-- a stamp is its colour and its mix
stamp-of-one : (k : _) (a : _) (x y : _) (e f : _) → stamp-of.Post k a x e → stamp-of.Post k a y f → (x.color ≡ y.color) × (x.mix.multiply ≡ y.mix.multiply) × (x.mix.color ≡ y.mix.color)
stamp-of-one k a x y e f p q = let c = both p.0 q.0 in (c, both p.1 q.1, x.full ∙ rw c (sym y.full))
