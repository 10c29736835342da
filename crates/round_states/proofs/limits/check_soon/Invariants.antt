use Rattle.std.proofs.Common.{ℕ, ◌<◌}
use Rattle.round_states.specs.Faults.{BeginSoon}
use Rattle.round_states.proofs.limits.check_soon.Given as goal

-- no green of the nodes so far begins too late
abbrev pub invariant-loop-node : goal.invariant-loop-node
invariant-loop-node l = (k : ℕ) → k < l.node → BeginSoon l.entries k
