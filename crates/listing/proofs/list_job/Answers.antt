-- `listing::list_job` meets its contract. Assumes nothing.
use Rattle.listing.proofs.Jobs.{listed-long, listed-short}
use Rattle.listing.proofs.list_job.Goals as goal

pub returns-then-s-gt-MOST_BYTES : goal.returns-then-s-gt-MOST_BYTES
returns-then-s-gt-MOST_BYTES c = listed-long _ c.if-s-gt-MOST_BYTES.true c.translate.ensures

pub returns : goal.returns
returns c = listed-short _ c.if-s-gt-MOST_BYTES.false c.translate-2.ensures
