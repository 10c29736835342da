use Rattle.scenario_gen.specs.Drafts.{node}
use Rattle.scenario_gen.proofs.Loops.{map-step}
use Rattle.scenario_gen.proofs.drafting.nodes.Goals as goal

pub loop-k-preserved : goal.loop-k-preserved
loop-k-preserved c = map-step (node c.args.side) c.loop-k.k c.loop-k.nodes.items _ _ c.loop-k.invariant c.in_ok-push.ensures.items c.in_ok-node.ensures
