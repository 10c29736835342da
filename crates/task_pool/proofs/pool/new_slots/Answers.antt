use Rattle.std.proofs.Common.{rules}
use Rattle.task_pool.proofs.Changes.{more-empty, more-fits}
use Rattle.task_pool.specs.Known.{IsOwnerOf}
use Rattle.task_pool.proofs.pool.new_slots.Goals as goal

pub loop-made-preserved : goal.loop-made-preserved
loop-made-preserved g c = let was = c.loop-made.invariant in let made = c.in_ok-slot in (
  (rw (c.push_reserved.ensures.items, c.push_reserved-in-loop-made.ensures.items) (more-fits IsOwnerOf _ _ made.slot made.owner (search rules) was.0)),
  (rw c.push_reserved-in-loop-made.ensures.items (more-empty _ made.owner (search rules) was.1)),
  search rules,
  search rules,
  search rules,
  search rules,
)
