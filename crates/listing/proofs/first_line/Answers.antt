-- `listing::first_line` meets its contract. Assumes nothing.
use Rattle.listing.proofs.Jobs.{first-refused, first-paper}
use Rattle.listing.proofs.first_line.Goals as goal

pub returns-then-t-ne-DONE : goal.returns-then-t-ne-DONE
returns-then-t-ne-DONE c =
    let e = first-refused c.args.t c.if-t-ne-DONE.true in
    record { value = rw e c.refused_line.ensures.value; out_after = rw e c.refused_line.ensures.out_after }

pub returns : goal.returns
returns c =
    let e = first-paper c.args.t c.if-t-ne-DONE.false in
    record { value = rw e c.paper_line.ensures.value; out_after = rw e c.paper_line.ensures.out_after }
