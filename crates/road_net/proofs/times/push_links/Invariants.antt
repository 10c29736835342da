use Rattle.std.proofs.Common.{◌≡◌, ◌++◌, take}
use Rattle.std.specs.List.{concat}
use Rattle.road_net.proofs.times.push_links.Given as goal

-- what was there, and the links of the phases so far
abbrev pub invariant-loop-links : goal.invariant-loop-links
invariant-loop-links l = l.named.items ≡ l.fn.named.items ++ concat (take l.links-index l.phases)
