use Rattle.std.proofs.Common.{map}
use Rattle.std.specs.List.{range_with_len}
use Rattle.world_records.specs.Written.{Adds}
use Rattle.controller_jobs.specs.Bounds.{fixed_record}
use Rattle.fixed_plans.specs.FixedBounds.{fixed_bounds}
use Rattle.fixed_plans.specs.Reds.{fixed_red}
use Rattle.waits.specs.Bounds.{phase_bounds}
use Rattle.controller_jobs.proofs.fixed_bounds_text.write_node.Given as goal

abbrev pub invariant-loop-phase : goal.invariant-loop-phase
invariant-loop-phase l = Adds l.fn.out l.out (map (λ k. fixed_record l.net (phase_bounds l.net l.node k) (fixed_bounds l.net l.plan l.node k) (fixed_red l.net l.plan l.node k)) (range_with_len 0 l.phase))
