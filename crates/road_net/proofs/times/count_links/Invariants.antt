use Rattle.std.proofs.Common.{take}
use Rattle.road_net.specs.Stored.{AreTimes}
use Rattle.road_net.proofs.times.count_links.Given as goal

-- how often each link is among those so far
abbrev pub invariant-loop-link : goal.invariant-loop-link
invariant-loop-link l = AreTimes (take l.link-index l.named) l.links l.times.items
