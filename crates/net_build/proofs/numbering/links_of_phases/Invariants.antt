use Rattle.std.proofs.Common.{◌≡◌, Some, take}
use Rattle.foundation.specs.Options.{each}
use Rattle.net_parts.specs.Numbers.{number_of}
use Rattle.net_build.proofs.numbering.links_of_phases.Given as goal

-- the links of the phases so far
abbrev pub invariant-loop-index : goal.invariant-loop-index
invariant-loop-index l = record {
  serves : each (λ p. each (number_of l.names) p.links) (take l.index l.phases) ≡ Some l.serves.items;
  also : each (λ p. each (number_of l.names) p.also) (take l.index l.phases) ≡ Some l.further.items;
}
