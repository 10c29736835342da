use Rattle.std.proofs.Common.{◌≡◌, map}
use Rattle.std.specs.List.{range_with_len}
use Rattle.fixed_plans.specs.FixedBounds.{fixed_bounds}
use Rattle.fixed_plans.proofs.bounds.fixed_bounds.Given as goal

-- the bounds of the phases so far
abbrev pub invariant-loop-phase : goal.invariant-loop-phase
invariant-loop-phase l = l.bounds.items ≡ map (fixed_bounds l.net l.plan l.node) (range_with_len 0 l.phase)
