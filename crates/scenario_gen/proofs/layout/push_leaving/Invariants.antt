use Rattle.std.proofs.Common.{◌≡◌, ◌++◌}
use Rattle.std.specs.List.{flat_map, range_with_len}
use Rattle.scenario_gen.specs.Layout.{exit_roads}
use Rattle.scenario_gen.proofs.layout.push_leaving.Given as goal

abbrev pub invariant-loop-node : goal.invariant-loop-node
invariant-loop-node l = l.roads.items ≡ l.fn.roads.items ++ flat_map exit_roads (range_with_len 0 l.node)
