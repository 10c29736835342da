use Rattle.std.proofs.Common.{rules, refl}
use Rattle.task_pool.proofs.Steps.{opens, begins-empty}
use Rattle.task_pool.proofs.slot.Slot.new.Goals as goal

pub vacant-requires : goal.vacant-requires
vacant-requires g c = opens _ _ _ _ refl refl

pub store-requires : goal.store-requires
store-requires g c = let made = c.in_ok-table.ensures in (search rules, search rules, begins-empty _ _ _ _ _ (search rules) (search rules) (search rules))
