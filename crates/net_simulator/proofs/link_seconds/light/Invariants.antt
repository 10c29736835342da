use Rattle.road_net.specs.Network.{entry_links}
use Rattle.net_simulator.proofs.Lighting.{AreLitTo}
use Rattle.net_simulator.proofs.link_seconds.light.Given as goal

abbrev pub invariant-loop-l : goal.invariant-loop-l
invariant-loop-l l = AreLitTo l.net l.second l.sign (entry_links l.net l.node) l.initial.since l.l-index l.since
