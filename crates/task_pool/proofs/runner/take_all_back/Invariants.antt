use Rattle.std.proofs.Common.{◌≡◌}
use Rattle.std.specs.Prelude.{vec_capacity}
use Rattle.task_pool.specs.Known.{AreOwnersOf}
use Rattle.task_pool.specs.Laying.{IsTakingBack}
use Rattle.task_pool.proofs.runner.take_all_back.Given as goal

abbrev pub invariant-loop-place : goal.invariant-loop-place
invariant-loop-place g l = AreOwnersOf l.slots l.owners × IsTakingBack g.T.Task.done l.place l.initial.owners l.owners l.tasks.items × (vec_capacity l.tasks ≡ vec_capacity l.initial.tasks)
