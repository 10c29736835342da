use Rattle.task_pool.specs.Known.{AreWorkersOf}
use Rattle.task_pool.proofs.workers.work.Given as goal

abbrev pub invariant-loop : goal.invariant-loop
invariant-loop g l = (goal.iterator-loop g).can_next l.iterator' × (goal.iterator-loop g).is_finite l.iterator' × AreWorkersOf l.slots l.workers.items
