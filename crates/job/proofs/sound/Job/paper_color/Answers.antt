use Rattle.job.proofs.Walk.{good}
use Rattle.job.proofs.sound.Job.paper_color.Goals as goal

pub paper_color-requires : goal.paper_color-requires
paper_color-requires c = (good _ c.args.self.sound).long
