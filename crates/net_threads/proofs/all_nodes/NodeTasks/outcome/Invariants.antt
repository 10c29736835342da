use Rattle.std.proofs.Common.{All, IsOk, take}
use Rattle.net_threads.proofs.all_nodes.NodeTasks.outcome.Given as goal

abbrev pub invariant-loop-task : goal.invariant-loop-task
invariant-loop-task g l = All (λ task. IsOk task.ended) (take l.task-index l.task-items)
