use Rattle.std.proofs.Common.{◌≡◌}
use Rattle.std.specs.List.{flat_map, range_with_len}
use Rattle.waits.specs.Bounds.{node_bounds}
use Rattle.waits.proofs.bounds.network_bounds.Given as goal

-- the bounds of the nodes so far
abbrev pub invariant-loop-node : goal.invariant-loop-node
invariant-loop-node l = l.bounds.items ≡ flat_map (node_bounds l.net) (range_with_len 0 l.node)
