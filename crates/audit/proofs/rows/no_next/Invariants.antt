use Rattle.std.proofs.Common.{ℕ, ◌<◌}
use Rattle.audit.specs.Audits.{FollowsAt}
use Rattle.audit.proofs.rows.no_next.Given as goal

-- each row up to here follows the one before it
abbrev pub invariant-loop-index : goal.invariant-loop-index
invariant-loop-index l = (k : ℕ) → k < l.index → FollowsAt l.plan l.rows k
