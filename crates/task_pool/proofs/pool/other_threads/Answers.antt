use Rattle.task_pool.proofs.Changes.{more-threads}
use Rattle.task_pool.proofs.pool.other_threads.Goals as goal

pub loop-number-preserved : goal.loop-number-preserved
loop-number-preserved g c = let told = c.new_workers.ensures.owners in
    (told.0, told.1, rw c.in_ok-push.ensures.items (more-threads _ _ _ c.loop-number.invariant.2 c.in_ok-workers.ensures.workers))
