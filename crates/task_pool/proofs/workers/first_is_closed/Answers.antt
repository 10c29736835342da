use Rattle.std.proofs.Common.{rules, sym, ◌∙◌}
use Rattle.task_pool.proofs.Changes.{first-found, set-fits}
use Rattle.task_pool.specs.Known.{IsFreeWorkerOf}
use Rattle.task_pool.proofs.workers.first_is_closed.Goals as goal

pub returns-clause-workers : goal.returns-clause-workers
returns-clause-workers g c = set-fits IsFreeWorkerOf _ _ _ c.index-slots-0.result _ (search rules) c.index-slots-0.is (search rules) c.requires

pub returns-clause-closed : goal.returns-clause-closed
returns-clause-closed g c = c.is_closed.ensures.closed ∙ sym (first-found c.args.workers.now c.is_closed.new.worker (search rules))
