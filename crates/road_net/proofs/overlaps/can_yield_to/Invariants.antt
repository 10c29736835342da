use Rattle.std.proofs.Common.{All, take}
use Rattle.net_parts.specs.Parts.{net_of}
use Rattle.road_net.specs.Joins.{GivesWay}
use Rattle.road_net.proofs.overlaps.can_yield_to.Given as goal

-- the link may give way to those so far
abbrev pub invariant-loop-other : goal.invariant-loop-other
invariant-loop-other s = All (GivesWay (net_of s.parts) s.l) (take s.other-index s.others)
