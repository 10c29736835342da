use Rattle.commands.proofs.Outcomes.{outcome}
use Rattle.commands.proofs.works.job.Goals as goal

pub returns : goal.returns
returns g c = outcome _ _ _ _ _ c.make.ensures c.end.ensures
