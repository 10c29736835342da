use Rattle.std.proofs.Common.{ℕ, ◌<◌, ◌≤◌}
use Rattle.phase_plan.specs.Phases.{IsMarkedAt}
use Rattle.fixed_plans.proofs.order.are_marked.Given as goal

-- those up to here are marked
abbrev pub invariant-loop-phase : goal.invariant-loop-phase
invariant-loop-phase l = (k : ℕ) → l.low ≤ k → k < l.phase → IsMarkedAt l.plan k
