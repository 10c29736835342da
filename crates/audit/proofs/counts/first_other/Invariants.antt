use Rattle.std.proofs.Common.{◌≡◌, ℕ, ◌<◌}
use Rattle.net_simulator.specs.Counts.{counts_at}
use Rattle.audit.proofs.counts.first_other.Given as goal

-- of each link up to here is said what is counted
abbrev pub invariant-loop-link : goal.invariant-loop-link
invariant-loop-link l = (k : ℕ) → k < l.link → counts_at l.links k ≡ counts_at l.world.counts k
