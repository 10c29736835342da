use Rattle.std.proofs.Common.{◌≡◌, ◌++◌, map, filter, is_none, take}
use Rattle.scenario_gen.specs.Layout.{entering_by, neighbour}
use Rattle.scenario_gen.proofs.layout.push_entering_node.Given as goal

abbrev pub invariant-loop-direction : goal.invariant-loop-direction
invariant-loop-direction l = l.roads.items ≡ l.fn.roads.items ++ map (entering_by l.node) (filter (λ d. is_none (neighbour l.side l.node d)) (take l.direction-index l.sides))
