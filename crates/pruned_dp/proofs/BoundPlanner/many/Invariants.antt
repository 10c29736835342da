use Rattle.std.proofs.Common.{◌≡◌, length}
use Rattle.pruned_dp.proofs.BoundPlanner.many.Given as goal

-- this many are made
abbrev pub invariant-loop-planner : goal.invariant-loop-planner
invariant-loop-planner l = length l.planners.items ≡ l._planner
