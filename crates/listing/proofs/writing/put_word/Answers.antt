-- `listing::writing::put_word` meets its contract.
use Rattle.listing.proofs.Lines.{word-put}
use Rattle.listing.proofs.writing.put_word.Goals as goal

pub returns-clause-out_after : goal.returns-clause-out_after
returns-clause-out_after c = word-put c.args.word.now c.args.out.now c.args.at c.requires c.copy_from_slice.ensures.after
