use Rattle.std.proofs.Common.{◌≡◌, map, take}
use Rattle.histories.proofs.merging.nodes_of.Given as goal

abbrev pub invariant-loop-pair : goal.invariant-loop-pair
invariant-loop-pair l = l.nodes.items ≡ map (λ pair. pair.1) (take l.pair-index l.drawn)
