-- `listing::printing::Block::begin` keeps the text in the block.
use Rattle.std.proofs.Common.{arith}
use Rattle.listing.specs.Listing.{first_line}
use Rattle.listing.proofs.Lines.{text-fits}
use Rattle.listing.proofs.printing.Block.begin.Goals as goal

pub invariant_of-self : goal.invariant_of-self
invariant_of-self c = record { inside = omega (arith, text-fits (first_line _) _ _ (c.first_line.ensures.value, c.first_line.ensures.out_after), c.unwrap_or-self.ensures) }
