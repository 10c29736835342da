use Rattle.std.proofs.Common.{◌≡◌, Some, All, take}
use Rattle.net_parts.specs.declared.roads.Turn.{Turn}
use Rattle.road_net.specs.Joins.{link_at}
use Rattle.road_net.proofs.joins.turns_leave.Given as goal

-- the turns so far leave the node
abbrev pub invariant-loop-turn : goal.invariant-loop-turn
invariant-loop-turn l = All (λ (t : Turn). (link_at l.links t.exit).from ≡ Some l.node) (take l.turn-index l.turns)
