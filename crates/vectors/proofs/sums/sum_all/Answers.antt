-- `vectors::sums::sum_all` meets its contract.
use Rattle.std.proofs.Common.{rules, ◌≡◌, ◌∙◌}
use Rattle.std.specs.List.{fold}
use Rattle.vectors.specs.Sums.{summed}
use Rattle.vectors.proofs.Checksums.{sum-folded}
use Rattle.vectors.proofs.sums.sum_all.Goals as goal

pub returns : goal.returns
returns c = let e : c.fold.result ≡ fold summed c.args.sum c.args.bytes.now = search rules in e ∙ sum-folded _ _
