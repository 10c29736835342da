use Rattle.std.proofs.Common.{◌≡◌}
use Rattle.histories.specs.Steps.{board_steps}
use Rattle.histories.specs.Histories.{turns}
use Rattle.histories.proofs.history.push_turns.Given as goal

abbrev pub invariant-loop-node : goal.invariant-loop-node
invariant-loop-node l = l.round.items ≡ turns (board_steps l.net) l.node
