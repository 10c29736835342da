use Rattle.std.proofs.Common.{◌≡◌, Some, take}
use Rattle.foundation.specs.Options.{each}
use Rattle.net_parts.specs.Numbers.{conflict_of}
use Rattle.net_build.proofs.numbering.conflicts.Given as goal

-- the conflicts so far
abbrev pub invariant-loop-index : goal.invariant-loop-index
invariant-loop-index l = each (conflict_of l.names) (take l.index l.conflicts) ≡ Some l.pairs.items
