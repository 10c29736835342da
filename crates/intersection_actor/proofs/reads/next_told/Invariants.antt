use Rattle.std.proofs.Common.{◌≡◌, filter, find, is_some, drop, nat_le}
use Rattle.net_parts.specs.Outline.{link_at}
use Rattle.road_net.specs.Network.{told_links}
use Rattle.intersection_actor.proofs.reads.next_told.Given as goal

abbrev pub invariant-loop-link : goal.invariant-loop-link
invariant-loop-link l = find (λ k. nat_le l.first k) (filter (λ k. is_some (link_at l.net k).to) (drop l.link-index l.link-items)) ≡ find (λ k. nat_le l.first k) (told_links l.net l.node)
