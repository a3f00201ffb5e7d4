use lib.Seq.{take-length}
use Rattle.std.proofs.Common.{rules}
use Rattle.vectors.specs.Sums.{checksum_of}
use Rattle.vectors.proofs.sums.checksum.Goals as goal

-- The body has no slice. `whole` proves one that leaves nothing out too, so that the mistake of made_wrong is refused
-- for what it leaves out, and not for its form.
pub returns : goal.returns
unfolding checksum_of
returns c = let whole = take-length c.args.bytes.now in search rules
