use Rattle.std.proofs.Common.{◌≡◌, ◌++◌, map, take}
use Rattle.scenario_gen.specs.Layout.{leaving_by}
use Rattle.scenario_gen.proofs.layout.push_leaving_node.Given as goal

abbrev pub invariant-loop-direction : goal.invariant-loop-direction
invariant-loop-direction l = l.roads.items ≡ l.fn.roads.items ++ map (leaving_by l.node) (take l.direction-index l.towards)
