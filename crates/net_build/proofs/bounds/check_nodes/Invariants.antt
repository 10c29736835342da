use Rattle.std.proofs.Common.{All, take}
use Rattle.net_parts.specs.Bounds.{IsBoundedNode}
use Rattle.net_build.proofs.bounds.check_nodes.Given as goal

-- the nodes so far are within their bounds
abbrev pub invariant-loop-index : goal.invariant-loop-index
invariant-loop-index l = All IsBoundedNode (take l.index l.nodes)
