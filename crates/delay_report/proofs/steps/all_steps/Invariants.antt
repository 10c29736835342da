use Rattle.std.proofs.Common.{◌≡◌, map}
use Rattle.std.specs.List.{range_with_len}
use Rattle.histories.specs.Steps.{board_steps}
use Rattle.delay_report.proofs.steps.all_steps.Given as goal

abbrev pub invariant-loop-node : goal.invariant-loop-node
invariant-loop-node l = map (λ own. own.items) l.steps.items ≡ map (board_steps l.net) (range_with_len 0 l.node)
