use Rattle.std.proofs.Common.{rules}
use Rattle.task_pool.proofs.Changes.{set-fits}
use Rattle.task_pool.specs.Known.{IsFreeWorkerOf}
use Rattle.task_pool.proofs.workers.do_tasks.Goals as goal

pub loop-preserved : goal.loop-preserved
loop-preserved g c = set-fits IsFreeWorkerOf _ _ _ c.index-slots-place.result _ (search rules) c.index-slots-place.is c.do_task.ensures c.loop.invariant
