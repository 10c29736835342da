use Rattle.std.proofs.Common.{◌≡◌, map, take}
use Rattle.net_threads.specs.Ends.{ends_of}
use Rattle.net_threads.proofs.network_ends.link_ends.Given as goal

abbrev pub invariant-loop-l : goal.invariant-loop-l
invariant-loop-l l = l.ends.items ≡ map ends_of (take l.l l.net.links)
