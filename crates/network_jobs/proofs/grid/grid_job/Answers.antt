use Rattle.commands.proofs.Outcomes.{outcome}
use Rattle.network_jobs.proofs.grid.grid_job.Goals as goal

pub returns : goal.returns
returns g c = λ shelf. outcome _ _ _ _ _ (c.make_summary.ensures shelf) c.end.ensures
