use Rattle.std.proofs.Common.{rules}
use Rattle.task_pool.proofs.Steps.{closes-slot}
use Rattle.task_pool.proofs.slot.Slot.close.Goals as goal

pub store-requires : goal.store-requires
store-requires g c = let p = c.args.owner.now.placed in (search rules, search rules, closes-slot _ _ _ _ _ p.0 p.1 c.requires.free)
