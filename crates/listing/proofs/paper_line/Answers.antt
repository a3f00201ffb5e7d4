-- `listing::paper_line` meets its contract. Assumes nothing.
use Rattle.std.proofs.Common.{◌++◌}
use Rattle.listing.specs.Listing.{ascii, part, paper_line}
use Rattle.listing.proofs.Lines.{Begun, begun-none, begun_more, line_refused, line-put, paper-size, paper-parts}
use Rattle.listing.proofs.paper_line.Goals as goal
use Rattle.listing.proofs.paper_line.Goals.{After-slice_known-4-1}

begun : (c : After-slice_known-4-1) → let a = c.args in Begun ((part "paper " a.width ++ part " height " a.height) ++ part " dropped " a.dropped) a.out.now c.put_part-c.new.out c.put_part-c.result
unfolding part ascii
begun c = let a = c.args in begun_more (begun_more (begun_more (begun-none a.out.now) (part "paper " a.width) c.put_part-a.ensures.value c.put_part-a.ensures.out_after) (part " height " a.height) c.put_part-b.ensures.value c.put_part-b.ensures.out_after) (part " dropped " a.dropped) c.put_part-c.ensures.value c.put_part-c.ensures.out_after

pub returns-then-out-size : goal.returns-then-out-size
returns-then-out-size c =
    let a = c.args in let r = line_refused (paper_line a.width a.height a.dropped) a.out.now (paper-size a.width a.height a.dropped c.digits_of.ensures.0 c.digits_of-2.ensures.0 c.digits_of-3.ensures.0) c.if-out-size.true in record { value = r.0; out_after = r.1 }

pub returns : goal.returns
returns c =
    let a = c.args in
    let r = line-put (paper_line a.width a.height a.dropped) a.out.now (paper-size a.width a.height a.dropped c.digits_of.ensures.0 c.digits_of-2.ensures.0 c.digits_of-3.ensures.0) c.if-out-size.false (begun (goal.at.returns c).After-slice_known-4-1) (paper-parts a.width a.height a.dropped) in record { value = r.0; out_after = r.1 }
