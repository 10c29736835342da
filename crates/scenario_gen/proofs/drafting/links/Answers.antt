use Rattle.scenario_gen.proofs.Loops.{node-inside}
use Rattle.scenario_gen.proofs.drafting.links.Goals as goal

pub link-requires-clause-node : goal.link-requires-clause-node
link-requires-clause-node c = node-inside c.args.side c.loop-road.road-index c.args.roads.now _ c.requires.roads c.loop-road-test.true
