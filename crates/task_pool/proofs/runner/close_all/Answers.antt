use Rattle.std.proofs.Common.{rules}
use Rattle.task_pool.proofs.Changes.{all-closed, set-closed, set-fits}
use Rattle.task_pool.specs.Known.{IsOwnerOf}
use Rattle.task_pool.proofs.runner.close_all.Goals as goal

pub loop-place-preserved : goal.loop-place-preserved
loop-place-preserved g c = let was = c.loop-place.invariant in let slot = c.index-slots-place in (
  set-fits IsOwnerOf _ _ _ slot.result _ c.loop-place-test.true slot.is c.close.ensures.slot.0 was.0,
  set-closed _ _ _ (search rules) c.close.ensures.closed was.1,
)

pub returns : goal.returns
returns g c = record { owners = (c.loop-place.invariant.0, all-closed c.loop-place.place _ (search rules) c.loop-place.invariant.1) }
