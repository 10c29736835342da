use Rattle.std.proofs.Common.{ℕ, ◌<◌}
use Rattle.round_states.specs.Faults.{StoodInTime}
use Rattle.round_states.proofs.limits.check_stood.Given as goal

-- the queues of the links so far have stood for as long as they can have
abbrev pub invariant-loop-link : goal.invariant-loop-link
invariant-loop-link l = (k : ℕ) → k < l.link → StoodInTime l.entries k
