use Rattle.std.specs.List.{flat_map, range_with_len}
use Rattle.world_records.specs.Written.{Adds}
use Rattle.controller_jobs.specs.Bounds.{fixed_records}
use Rattle.controller_jobs.proofs.fixed_bounds_text.write_nodes.Given as goal

abbrev pub invariant-loop-node : goal.invariant-loop-node
invariant-loop-node l = Adds l.fn.out l.out (flat_map (fixed_records l.net l.plan) (range_with_len 0 l.node))
