use Rattle.std.proofs.Common.{ℕ, ◌<◌}
use Rattle.audit.specs.Audits.{AllRows, FollowsAt}
use Rattle.audit.proofs.rows.first_no_next.Given as goal

-- it holds of each row of the nodes up to here
abbrev pub invariant-loop-node : goal.invariant-loop-node
invariant-loop-node l = (n : ℕ) → n < l.node → AllRows FollowsAt l.net l.lines n
