use Rattle.std.proofs.Common.{rules}
use Rattle.task_pool.proofs.Held.{given}
use Rattle.task_pool.proofs.Steps.{puts-back}
use Rattle.task_pool.proofs.slot.Slot.put_back.Goals as goal

pub store-requires : goal.store-requires
store-requires g c = let p = c.args.worker.now.placed in let was = given g.T.Task.done _ _ c.requires.done in
    (search rules, search rules, puts-back _ _ _ _ _ was.0 c.args.task (search rules) (search rules) (search rules) was.2)
