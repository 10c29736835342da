use Rattle.std.proofs.Common.{◌≡◌, Some, take}
use Rattle.foundation.specs.Options.{each}
use Rattle.net_parts.specs.Numbers.{turn_of}
use Rattle.net_build.proofs.numbering.turns.Given as goal

-- the turns so far
abbrev pub invariant-loop-index : goal.invariant-loop-index
invariant-loop-index l = each (turn_of l.names) (take l.index l.turns) ≡ Some l.numbered.items
