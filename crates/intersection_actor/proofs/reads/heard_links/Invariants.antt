use Rattle.std.proofs.Common.{◌≡◌, filter, is_some, take}
use Rattle.net_parts.specs.Outline.{link_at}
use Rattle.intersection_actor.proofs.reads.heard_links.Given as goal

abbrev pub invariant-loop-link : goal.invariant-loop-link
invariant-loop-link l = l.heard.items ≡ filter (λ k. is_some (link_at l.net k).from) (take l.link-index l.entries)
