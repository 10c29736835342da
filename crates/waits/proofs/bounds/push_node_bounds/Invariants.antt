use Rattle.std.proofs.Common.{◌≡◌, ◌++◌, map}
use Rattle.std.specs.List.{range_with_len}
use Rattle.waits.specs.Bounds.{phase_bounds}
use Rattle.waits.proofs.bounds.push_node_bounds.Given as goal

-- the bounds of the phases so far have been added
abbrev pub invariant-loop-phase : goal.invariant-loop-phase
invariant-loop-phase l = l.bounds.items ≡ l.initial.bounds.items ++ map (phase_bounds l.net l.node) (range_with_len 0 l.phase)
