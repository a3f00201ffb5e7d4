-- `listing::refused_line` meets its contract. Assumes nothing.
use Rattle.listing.specs.Listing.{ascii, part, refused_line}
use Rattle.listing.proofs.Lines.{Begun, begun-none, begun_more, line_refused, line-put, refused-size, refused-parts}
use Rattle.listing.proofs.refused_line.Goals as goal
use Rattle.listing.proofs.refused_line.Goals.{After-slice_known-2-1}

begun : (c : After-slice_known-2-1) → let a = c.args in Begun (part "refused " a.number) a.out.now c.put_part-a.new.out c.put_part-a.result
unfolding part ascii
begun c = let a = c.args in begun_more (begun-none a.out.now) (part "refused " a.number) c.put_part-a.ensures.value c.put_part-a.ensures.out_after

pub returns-then-out-size : goal.returns-then-out-size
returns-then-out-size c =
    let a = c.args in let r = line_refused (refused_line a.number) a.out.now (refused-size a.number c.digits_of-size.ensures.0) c.if-out-size.true in record { value = r.0; out_after = r.1 }

pub returns : goal.returns
returns c =
    let a = c.args in
    let r = line-put (refused_line a.number) a.out.now (refused-size a.number c.digits_of-size.ensures.0) c.if-out-size.false (begun (goal.at.returns c).After-slice_known-2-1) (refused-parts a.number) in record { value = r.0; out_after = r.1 }
