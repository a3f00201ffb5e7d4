use Rattle.job.proofs.Walk.{good}
use Rattle.job.proofs.sound.Job.paper_width.Goals as goal

pub paper_width-requires : goal.paper_width-requires
paper_width-requires c = (good _ c.args.self.sound).long
