use Rattle.std.proofs.Common.{◌≡◌, filter, take}
use Rattle.scenario_gen.specs.Layout.{serves}
use Rattle.scenario_gen.proofs.layout.phase_roads.Given as goal

abbrev pub invariant-loop-road : goal.invariant-loop-road
invariant-loop-road l = l.served.items ≡ filter (serves l.side l.node l.phase) (take l.road-index l.roads)
