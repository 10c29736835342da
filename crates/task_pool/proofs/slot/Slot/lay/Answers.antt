use Rattle.std.proofs.Common.{rules}
use Rattle.task_pool.proofs.Steps.{lays-task}
use Rattle.task_pool.proofs.slot.Slot.lay.Goals as goal

pub store-requires : goal.store-requires
store-requires g c = let p = c.args.owner.now.placed in (search rules, search rules, lays-task _ _ _ _ _ c.args.task (search rules) (search rules) (search rules) (search rules) c.requires.ready)
