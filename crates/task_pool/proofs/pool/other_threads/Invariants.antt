use Rattle.task_pool.specs.Known.{AreEmpty, AreOwnersOf}
use Rattle.task_pool.specs.Threads.{AreThreadsOf}
use Rattle.task_pool.proofs.pool.other_threads.Given as goal

abbrev pub invariant-loop-number : goal.invariant-loop-number
invariant-loop-number g l = AreOwnersOf l.slots l.owners × AreEmpty l.owners × AreThreadsOf l.slots l.others.items
