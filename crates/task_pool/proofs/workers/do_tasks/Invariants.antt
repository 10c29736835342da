use Rattle.task_pool.specs.Known.{AreWorkersOf}
use Rattle.task_pool.proofs.workers.do_tasks.Given as goal

abbrev pub invariant-loop : goal.invariant-loop
invariant-loop g l = AreWorkersOf l.slots l.workers
