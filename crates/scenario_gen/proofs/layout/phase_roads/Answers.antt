use Rattle.scenario_gen.proofs.Loops.{node-inside}
use Rattle.scenario_gen.proofs.layout.phase_roads.Goals as goal

pub is_served-requires-clause-node : goal.is_served-requires-clause-node
is_served-requires-clause-node c = node-inside c.args.side c.loop-road.road-index c.args.roads.now _ c.requires.roads c.loop-road-test.true
