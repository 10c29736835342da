use Rattle.std.proofs.Common.{◌≡◌, Some, take}
use Rattle.foundation.specs.Options.{each}
use Rattle.net_parts.specs.Numbers.{phases_of, also_of}
use Rattle.net_build.proofs.numbering.greens.Given as goal

-- the links of the phases of the nodes so far
abbrev pub invariant-loop-index : goal.invariant-loop-index
invariant-loop-index l = record {
  serves : each (phases_of l.names) (take l.index l.nodes) ≡ Some l.serves.items;
  also : each (also_of l.names) (take l.index l.nodes) ≡ Some l.also.items;
}
