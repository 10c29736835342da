use Rattle.histories.specs.Steps.{board_steps}
use Rattle.histories.proofs.HowFar.{HaveCounts}
use Rattle.histories.proofs.progress.step_counts.Given as goal

abbrev pub invariant-loop-node : goal.invariant-loop-node
invariant-loop-node l = HaveCounts (board_steps l.net) l.node l.counts.items
