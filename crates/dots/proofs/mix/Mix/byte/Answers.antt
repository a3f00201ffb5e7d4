-- A byte of a block meets its contract. Assumes nothing.
use Rattle.std.proofs.Common.{◌∙◌, ◌%◌, arith}
use Rattle.dots.specs.Tables.{factors, terms}
use Rattle.dots.proofs.Mixed.{bytes-of, lane-at, lanes_fit, mixed-byte}
use Rattle.dots.proofs.mix.Mix.byte.Goals as goal

pub mix_byte-requires : goal.mix_byte-requires
mix_byte-requires c =
    let m = c.args.self.now in
    let j = c.args.j in
    rw (lane-at (factors m.multiply m.color) m.made.0 j (omega arith), lane-at (terms m.multiply m.color) m.made.1 j (omega arith)) (lanes_fit m.multiply m.color (bytes-of m.color m.bytes) (j % 4) (omega arith))

pub returns : goal.returns
returns c =
    let m = c.args.self.now in
    let j = c.args.j in
    c.mix_byte.ensures
    ∙ rw (lane-at (factors m.multiply m.color) m.made.0 j (omega arith), lane-at (terms m.multiply m.color) m.made.1 j (omega arith)) (mixed-byte m.multiply m.color c.args.s (bytes-of m.color m.bytes) (omega arith) m.whole (j % 4) (omega arith))
