use Rattle.commands.proofs.Outcomes.{outcome}
use Rattle.network_jobs.proofs.net.net_job.Goals as goal

pub returns : goal.returns
returns g c = outcome _ _ _ _ _ c.make_report-made.ensures c.end.ensures
