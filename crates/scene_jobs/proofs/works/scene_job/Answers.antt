use Rattle.commands.proofs.Outcomes.{outcome}
use Rattle.scene_jobs.proofs.works.scene_job.Goals as goal

pub returns : goal.returns
returns g c = outcome _ _ _ _ _ c.scene_text.ensures c.end.ensures
