use Rattle.std.proofs.Common.{◌≡◌, map, take}
use Rattle.scenario_gen.specs.Drafts.{road_name}
use Rattle.scenario_gen.proofs.drafting.road_names.Given as goal

abbrev pub invariant-loop-road : goal.invariant-loop-road
invariant-loop-road l = l.names.items ≡ map road_name (take l.road-index l.roads)
