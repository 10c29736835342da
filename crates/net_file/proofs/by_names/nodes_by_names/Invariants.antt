use Rattle.std.proofs.Common.{◌≡◌, map}
use Rattle.std.specs.List.{range_with_len}
use Rattle.net_file.specs.ByNames as spec
use Rattle.net_parts.specs.Parts.{net_of}
use Rattle.net_file.proofs.by_names.nodes_by_names.Given as goal

-- the nodes so far
abbrev pub invariant-loop-n : goal.invariant-loop-n
invariant-loop-n l = l.nodes.items ≡ map (spec.node_by_names (net_of l.parts) l.third) (range_with_len 0 l.n)
