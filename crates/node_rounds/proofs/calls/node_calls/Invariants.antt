use Rattle.std.proofs.Common.{◌≡◌, ◌*◌, length, map}
use Rattle.std.specs.List.{range_with_len}
use Rattle.histories.specs.Steps.{board_steps}
use Rattle.node_rounds.proofs.calls.node_calls.Given as goal

abbrev pub invariant-loop-node : goal.invariant-loop-node
invariant-loop-node l = l.calls.items ≡ map (λ node. l.net.run.rounds * length (board_steps l.net node)) (range_with_len 0 l.node)
