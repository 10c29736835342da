use Rattle.std.proofs.Common.{◌+◌, ◌≤◌}
use Rattle.dp_certificate.specs.LowerBound.{IsRemainingCost}
use Rattle.forward_dp.specs.Groups.{AreReachedBy}
use Rattle.forward_dp.proofs.groups.Reached.reach.Given as goal

-- what the rows so far reach is taken in, in at most one step for each
abbrev pub invariant-loop-row : goal.invariant-loop-row
invariant-loop-row g l = record {
  reached : AreReachedBy l.i l.limit l.phase l.cluster l.source l.row-index l.self;
  remaining : IsRemainingCost l.i l.remaining;
  cost : l.steps ≤ l.initial.steps + l.row-index;
}
