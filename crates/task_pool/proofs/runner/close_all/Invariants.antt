use Rattle.task_pool.specs.Known.{AreOwnersOf}
use Rattle.task_pool.specs.Laying.{AreClosing}
use Rattle.task_pool.proofs.runner.close_all.Given as goal

abbrev pub invariant-loop-place : goal.invariant-loop-place
invariant-loop-place g l = AreOwnersOf l.slots l.owners.items × AreClosing l.place l.owners.items
