-- `listing::writing::put_part` meets its contract.
use Rattle.listing.specs.Listing.{digits}
use Rattle.listing.proofs.Lines.{sets-after}
use Rattle.listing.proofs.writing.put_part.Goals as goal

pub returns-clause-out_after : goal.returns-clause-out_after
returns-clause-out_after c =
    let a = c.args in
    let w = c.put_word-next.ensures in
    let n = c.put_number.ensures in (sets-after a.out.now a.at a.word.now (digits a.n) w.value w.out_after n.value n.out_after).1
