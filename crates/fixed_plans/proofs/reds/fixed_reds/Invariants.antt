use Rattle.std.proofs.Common.{◌≡◌, map}
use Rattle.std.specs.List.{range_with_len}
use Rattle.fixed_plans.specs.Reds.{fixed_red}
use Rattle.fixed_plans.proofs.reds.fixed_reds.Given as goal

-- the reds of the phases so far
abbrev pub invariant-loop-phase : goal.invariant-loop-phase
invariant-loop-phase l = l.reds.items ≡ map (fixed_red l.net l.plan l.node) (range_with_len 0 l.phase)
