use Rattle.std.proofs.Common.{◌≡◌, map, take}
use Rattle.std.specs.List.{concat}
use Rattle.road_net.proofs.times.named_links.Given as goal

-- the links of the phases of the nodes so far
abbrev pub invariant-loop-phases : goal.invariant-loop-phases
invariant-loop-phases l = l.named.items ≡ concat (map concat (take l.phases-index l.phase_links))
