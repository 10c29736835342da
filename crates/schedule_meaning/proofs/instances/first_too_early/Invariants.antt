use Rattle.std.proofs.Common.{ℕ, ◌+◌, ◌<◌, ◌≤◌}
use Rattle.schedule_meaning.specs.Instances.{cluster_at}
use Rattle.schedule_meaning.proofs.instances.first_too_early.Given as goal

-- the clusters so far are spaced
abbrev pub invariant-loop-index : goal.invariant-loop-index
invariant-loop-index l = (k : ℕ) → k + 1 < l.index → (cluster_at l.list k).arr + (cluster_at l.list k).len ≤ (cluster_at l.list (k + 1)).arr
