use Rattle.std.proofs.Common.{◌≡◌}
use Rattle.net_core.proofs.Along.{gone}
use Rattle.net_core.proofs.history_run.run.Given as goal

abbrev pub invariant-loop-node : goal.invariant-loop-node
invariant-loop-node g l = l.core ≡ gone l.net l.arrivals l.steps l.node-index
