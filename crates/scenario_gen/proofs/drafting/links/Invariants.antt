use Rattle.std.proofs.Common.{◌≡◌, map, take}
use Rattle.scenario_gen.specs.Drafts.{link}
use Rattle.scenario_gen.proofs.drafting.links.Given as goal

abbrev pub invariant-loop-road : goal.invariant-loop-road
invariant-loop-road l = l.links.items ≡ map (link l.side) (take l.road-index l.roads)
