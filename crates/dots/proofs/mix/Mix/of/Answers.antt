-- What `Mix::of` makes keeps what a mix keeps. Assumes nothing.
use Rattle.std.proofs.Common.{arith}
use Rattle.dots.proofs.Mixed.{chan-byte}
use Rattle.dots.proofs.mix.Mix.of.Goals as goal

pub invariant_of-result : goal.invariant_of-result
invariant_of-result c =
    record {
      whole = c.requires.whole;
      bytes = chan-byte c.args.color (record { r = omega arith; g = omega arith; b = omega arith; a = omega arith });
      made = c.requires.made;
    }
