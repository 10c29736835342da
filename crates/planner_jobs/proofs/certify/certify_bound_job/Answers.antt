use Rattle.std.proofs.Common.{refl}
use Rattle.planner_jobs.proofs.Delivered.{certificate_outcome}
use Rattle.planner_jobs.proofs.certify.certify_bound_job.Goals as goal

pub returns : goal.returns
returns g c = certificate_outcome _ _ _ _ _ (c.certificate_of_file-certificate.ensures.bounded refl) c.deliver.ensures
