use Rattle.std.proofs.Common.{◌≡◌, take}
use Rattle.schedule_meaning.proofs.instances.copy_lists.Given as goal

-- the lists so far are copied
abbrev pub invariant-loop-list : goal.invariant-loop-list
invariant-loop-list l = l.copy.items ≡ take l.list-index l.lists
