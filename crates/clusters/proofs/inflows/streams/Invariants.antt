use Rattle.std.proofs.Common.{◌≡◌, take}
use Rattle.clusters.specs.Platoons.{streams_of}
use Rattle.clusters.proofs.inflows.streams.Given as goal

abbrev pub invariant-loop-l : goal.invariant-loop-l
invariant-loop-l l = l.streams.items ≡ streams_of l.net l.sensed l.heard (take l.l-index l.links)
