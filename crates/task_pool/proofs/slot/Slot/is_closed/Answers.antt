use Rattle.std.proofs.Common.{rules}
use Rattle.task_pool.proofs.Steps.{looks-at}
use Rattle.task_pool.proofs.slot.Slot.is_closed.Goals as goal

pub load-requires : goal.load-requires
load-requires g c = let p = c.args.worker.now.placed in (search rules, search rules, looks-at _ _ _ _ _ p.0)
