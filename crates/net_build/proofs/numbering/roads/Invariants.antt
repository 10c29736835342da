use Rattle.std.proofs.Common.{◌≡◌, Some, take}
use Rattle.foundation.specs.Options.{each}
use Rattle.net_parts.specs.Numbers.{link_of, turns_of, yields_of}
use Rattle.net_build.proofs.numbering.roads.Given as goal

-- the links so far, the turns of each, and those to which each gives way
abbrev pub invariant-loop-index : goal.invariant-loop-index
invariant-loop-index l = record {
  roads : each (link_of l.names.nodes.now l.names.links.now l.names.phase_links.now) (take l.index l.links) ≡ Some l.roads.items;
  turns : each (turns_of l.names.links.now) (take l.index l.links) ≡ Some l.lists.items;
  yields : each (yields_of l.names.links.now) (take l.index l.links) ≡ Some l.given.items;
}
