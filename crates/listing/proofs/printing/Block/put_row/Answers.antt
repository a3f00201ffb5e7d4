-- `listing::printing::Block::put_row` keeps the text in the block.
use Rattle.std.proofs.Common.{arith, ap}
use Rattle.std.specs.Result.{result_unwrap_or}
use Rattle.listing.specs.Listing.{row_line}
use Rattle.listing.proofs.Lines.{text-fits}
use Rattle.listing.proofs.printing.Block.put_row.Goals as goal

pub overflow_add-self : goal.overflow_add-self
overflow_add-self c =
    record { fits = omega (arith, text-fits (row_line _ _) _ _ (c.row_line.ensures.value, c.row_line.ensures.out_after), ap (λ r. result_unwrap_or r 0) c.in-Ok.is) }

pub invariant_of-self : goal.invariant_of-self
invariant_of-self c =
    record { inside = omega (arith, text-fits (row_line _ _) _ _ (c.row_line.ensures.value, c.row_line.ensures.out_after), ap (λ r. result_unwrap_or r 0) c.in-Ok.is) }

pub invariant_of-self-2 : goal.invariant_of-self-2
invariant_of-self-2 c = record { inside = omega (arith, text-fits (row_line _ _) _ _ (c.row_line-2.ensures.value, c.row_line-2.ensures.out_after), c.unwrap_or-self.ensures) }
