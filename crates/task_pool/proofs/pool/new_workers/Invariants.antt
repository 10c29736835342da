use Rattle.std.proofs.Common.{◌≡◌}
use Rattle.std.specs.Prelude.{vec_capacity}
use Rattle.task_pool.specs.Known.{AreEmpty, AreFreeTo, AreOwnersOf}
use Rattle.task_pool.proofs.pool.new_workers.Given as goal

abbrev pub invariant-loop-place : goal.invariant-loop-place
invariant-loop-place g l = AreOwnersOf l.slots l.owners × AreEmpty l.owners × AreFreeTo l.place l.slots l.workers.items × (vec_capacity l.workers ≡ vec_capacity l.initial.workers)
