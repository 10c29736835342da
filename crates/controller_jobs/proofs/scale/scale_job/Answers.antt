use Rattle.commands.proofs.Outcomes.{outcome}
use Rattle.controller_jobs.proofs.scale.scale_job.Goals as goal

pub returns : goal.returns
returns g c = outcome _ _ _ _ _ c.scale_files-made.ensures c.end.ensures
