use Rattle.std.proofs.Common.{[], refl}
use Rattle.scenario_gen.specs.Drafts.{conflicts}
use Rattle.scenario_gen.proofs.Loops.{flat-step}
use Rattle.scenario_gen.proofs.drafting.conflicts.Goals as goal

pub loop-node-preserved : goal.loop-node-preserved
loop-node-preserved c = flat-step (conflicts c.args.side) c.loop-node.node [] c.loop-node.conflicts.items c.push_conflicts_at.new.conflicts.items _ c.loop-node.invariant c.in_ok-push_conflicts_at.ensures refl
