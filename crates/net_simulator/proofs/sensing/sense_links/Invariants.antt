use Rattle.std.proofs.Common.{◌≡◌, length, map, take}
use Rattle.net_simulator.specs.LinkSeconds.{seen_by}
use Rattle.net_simulator.proofs.sensing.sense_links.Given as goal

abbrev pub invariant-loop-place : goal.invariant-loop-place
invariant-loop-place l = record {
  long : length l.senses.items ≡ length l.links;
  seen : take l.place l.senses.items ≡ map (seen_by l.sight.net.now l.sight.queues.now l.sight.recent.now l.sight.stood.now l.sight.second) (take l.place l.links);
}
