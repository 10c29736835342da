use Rattle.histories.specs.Steps.{board_steps}
use Rattle.histories.proofs.TurnOrder.{turns-more}
use Rattle.histories.proofs.history.push_turns.Goals as goal

pub loop-node-preserved : goal.loop-node-preserved
loop-node-preserved c = turns-more (board_steps c.args.net.now) c.loop-node.node c.step_count.result c.loop-node.round.items c.push_turn.new.round.items c.loop-node.invariant c.step_count.ensures.value c.in_ok-push_turn.ensures
