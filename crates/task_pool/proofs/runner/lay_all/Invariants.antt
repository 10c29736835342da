use Rattle.std.proofs.Common.{◌≡◌}
use Rattle.std.specs.Prelude.{vec_len, vec_capacity}
use Rattle.task_pool.specs.Known.{AreOwnersOf}
use Rattle.task_pool.specs.Laying.{IsLaying}
use Rattle.task_pool.proofs.runner.lay_all.Given as goal

abbrev pub invariant-loop-task : goal.invariant-loop-task
invariant-loop-task g l = AreOwnersOf l.slots l.owners × IsLaying l.initial.tasks.items l.tasks.items l.owners × (vec_capacity l.tasks ≡ vec_capacity l.initial.tasks)

abbrev pub decreases-loop-task : goal.decreases-loop-task
decreases-loop-task g l = vec_len l.tasks
