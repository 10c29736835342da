use Rattle.commands.proofs.Outcomes.{outcome}
use Rattle.scene_jobs.proofs.works.network_job.Goals as goal

pub returns : goal.returns
returns g c = outcome _ _ _ _ _ c.network_text.ensures c.end.ensures
