-- `listing::row_line` meets its contract. Assumes nothing.
use Rattle.std.proofs.Common.{◌++◌}
use Rattle.listing.specs.Listing.{ascii, part, row_line}
use Rattle.listing.proofs.Lines.{Begun, begun-none, begun_more, line_refused, line-put, row-size, row-parts}
use Rattle.listing.proofs.row_line.Goals as goal
use Rattle.listing.proofs.row_line.Goals.{After-slice_known-3-1}

begun : (c : After-slice_known-3-1) → let a = c.args in Begun (part "row " a.row ++ part " ink " a.ink) a.out.now c.put_part-b.new.out c.put_part-b.result
unfolding part ascii
begun c = let a = c.args in begun_more (begun_more (begun-none a.out.now) (part "row " a.row) c.put_part-a.ensures.value c.put_part-a.ensures.out_after) (part " ink " a.ink) c.put_part-b.ensures.value c.put_part-b.ensures.out_after

pub returns-then-out-size : goal.returns-then-out-size
returns-then-out-size c =
    let a = c.args in let r = line_refused (row_line a.row a.ink) a.out.now (row-size a.row a.ink c.digits_of.ensures.0 c.digits_of-2.ensures.0) c.if-out-size.true in record { value = r.0; out_after = r.1 }

pub returns : goal.returns
returns c =
    let a = c.args in
    let r = line-put (row_line a.row a.ink) a.out.now (row-size a.row a.ink c.digits_of.ensures.0 c.digits_of-2.ensures.0) c.if-out-size.false (begun (goal.at.returns c).After-slice_known-3-1) (row-parts a.row a.ink) in record { value = r.0; out_after = r.1 }
