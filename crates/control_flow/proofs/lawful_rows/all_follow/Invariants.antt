use Rattle.std.proofs.Common.{ℕ, ◌+◌, ◌<◌}
use Rattle.control_flow.specs.Greens.{Follows, row_at}
use Rattle.control_flow.proofs.lawful_rows.all_follow.Given as goal

-- each row up to here follows the one before it
abbrev pub invariant-loop-k : goal.invariant-loop-k
invariant-loop-k l = (j : ℕ) → j + 1 < l.k → Follows l.plan (row_at l.rows j) (row_at l.rows (j + 1))
