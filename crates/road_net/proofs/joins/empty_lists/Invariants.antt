use Rattle.std.proofs.Common.{◌≡◌, []}
use Rattle.std.specs.Prelude.{replicate}
use Rattle.road_net.proofs.joins.empty_lists.Given as goal

-- a list for each node so far, all of them empty
abbrev pub invariant-loop-node : goal.invariant-loop-node
invariant-loop-node l = l.lists.items ≡ replicate l.node []
