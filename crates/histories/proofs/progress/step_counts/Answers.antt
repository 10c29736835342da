use Rattle.std.proofs.Common.{rules, arith}
use Rattle.histories.specs.Steps.{board_steps}
use Rattle.histories.proofs.HowFar.{counts-none, counts-more, counts-all}
use Rattle.histories.proofs.StepLaws.{steps-beyond}
use Rattle.histories.proofs.progress.step_counts.Goals as goal

pub loop-node-init : goal.loop-node-init
loop-node-init c = counts-none (board_steps c.args.net.now) c.new-counts.result.items (search rules)

pub loop-node-preserved : goal.loop-node-preserved
loop-node-preserved c = counts-more (board_steps c.args.net.now) c.loop-node.node c.step_count.result c.loop-node.counts.items c.push.new.self.items c.loop-node.invariant c.step_count.ensures.value c.step_count.ensures.few c.in_ok-push.ensures.items

pub returns-clause-counts : goal.returns-clause-counts
returns-clause-counts c = counts-all (board_steps c.args.net.now) c.loop-node.node c.loop-node.counts.items c.loop-node.invariant (λ n past. steps-beyond c.args.net.now c.nodes-node-end.ensures.network n (omega (arith, past, c.loop-node-test.false, c.nodes-node-end.ensures.value)))
