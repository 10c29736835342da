use Rattle.std.proofs.Common.{◌≡◌, map, take}
use Rattle.road_net.specs.Network.{entry_links}
use Rattle.round_states.specs.Texts.{sense_in}
use Rattle.round_states.proofs.senses.link_senses.Given as goal

-- what is sensed of the links so far
abbrev pub invariant-loop-link : goal.invariant-loop-link
invariant-loop-link l = l.links.items ≡ map (sense_in l.net l.entries) (take l.link-index (entry_links l.net l.node))
