use Rattle.std.proofs.Common.{◌≡◌, Some, take}
use Rattle.foundation.specs.Options.{each}
use Rattle.net_parts.specs.Numbers.{number_of}
use Rattle.net_build.proofs.numbering.numbers.Given as goal

-- the numbers of the texts so far
abbrev pub invariant-loop-text : goal.invariant-loop-text
invariant-loop-text l = each (number_of l.names) (take l.text-index l.texts) ≡ Some l.numbers.items
