use Rattle.scenario_gen.specs.Layout.{entry_roads}
use Rattle.scenario_gen.proofs.Loops.{flat-step}
use Rattle.std.proofs.Common.{refl}
use Rattle.scenario_gen.proofs.layout.push_entering.Goals as goal

pub loop-node-preserved : goal.loop-node-preserved
loop-node-preserved c = flat-step (entry_roads c.args.side) c.loop-node.node c.args.roads.now.items c.loop-node.roads.items c.push_entering_node.new.roads.items _ c.loop-node.invariant c.in_ok-push_entering_node.ensures refl
