use Rattle.std.proofs.Common.{ℕ, ◌<◌}
use Rattle.net_parts.specs.Parts.{net_of}
use Rattle.road_net.specs.Joins.{IsConflictAt}
use Rattle.road_net.proofs.joins.check_conflicts.Given as goal

-- the conflicts so far are conflicts
abbrev pub invariant-loop-a : goal.invariant-loop-a
invariant-loop-a l = (k : ℕ) → k < l.a-index → IsConflictAt (net_of l.parts) k
