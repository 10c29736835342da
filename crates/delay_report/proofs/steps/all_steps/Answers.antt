use Rattle.histories.specs.Steps.{board_steps}
use Rattle.delay_report.proofs.WalkLaws.{all-more}
use Rattle.delay_report.proofs.steps.all_steps.Goals as goal

pub loop-node-preserved : goal.loop-node-preserved
loop-node-preserved c = all-more (board_steps c.args.net.now) c.loop-node.node c.loop-node.steps.items c.push.new.self.items c.in_ok-node_steps.field-0 c.loop-node.invariant c.in_ok-push.ensures.items c.in_ok-node_steps.ensures.value
