use Rattle.std.proofs.Common.{take}
use Rattle.road_net.specs.Joins.{AreByNode}
use Rattle.road_net.proofs.joins.links_by_node.Given as goal

-- the lists have the links so far
abbrev pub invariant-loop-index : goal.invariant-loop-index
invariant-loop-index l = AreByNode l.side (take l.index l.links) l.nodes l.lists.items
