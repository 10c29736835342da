use Rattle.std.proofs.Common.{◌≤◌, ◌+◌, ◌-◌}
use Rattle.fixed_plans.proofs.LineLaws.{IsUnderway}
use Rattle.fixed_plans.proofs.cycles.cycle_line.Given as goal

-- the line is made up to here
abbrev pub invariant-loop-at : goal.invariant-loop-at
invariant-loop-at l = record {
  under : IsUnderway l.plan l.cycle l.lead l.until l.rows.items l.at l.index;
  bound : l.at ≤ l.until + 260;
}

-- what is left
abbrev pub decreases-loop-at : goal.decreases-loop-at
decreases-loop-at l = l.until - l.at
