use Rattle.std.proofs.Common.{◌≡◌, map}
use Rattle.std.specs.List.{range_with_len}
use Rattle.scenario_gen.specs.Drafts.{node}
use Rattle.scenario_gen.proofs.drafting.nodes.Given as goal

abbrev pub invariant-loop-k : goal.invariant-loop-k
invariant-loop-k l = l.nodes.items ≡ map (node l.side) (range_with_len 0 l.k)
