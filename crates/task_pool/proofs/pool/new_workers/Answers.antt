use Rattle.std.proofs.Common.{rules, arith}
use Rattle.task_pool.proofs.Changes.{all-free, more-free, set-empty, set-fits}
use Rattle.task_pool.specs.Known.{IsOwnerOf}
use Rattle.task_pool.proofs.pool.new_workers.Goals as goal

pub loop-place-preserved : goal.loop-place-preserved
loop-place-preserved g c = let was = c.loop-place.invariant in let told = c.worker.ensures in let slot = c.index-slots-place in (
  set-fits IsOwnerOf _ _ _ slot.result _ c.loop-place-test.true slot.is told.owner.0 was.0,
  set-empty _ _ _ (search rules) was.1,
  (rw c.push_reserved.ensures.items (more-free _ _ _ slot.result _ c.loop-place-test.true slot.is told.worker was.2)),
  search rules,
)

pub returns-clause-workers : goal.returns-clause-workers
returns-clause-workers g c = all-free c.loop-place.place _ _ (omega (arith, c.loop-place-test.false, c.loop-place.auto.place-end)) c.loop-place.invariant.2
