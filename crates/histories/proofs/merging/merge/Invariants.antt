use Rattle.std.proofs.Common.{◌≡◌, map, take}
use Rattle.histories.specs.Merges.{all_events, stamp_and_node}
use Rattle.histories.proofs.merging.merge.Given as goal

abbrev pub invariant-loop-log : goal.invariant-loop-log
invariant-loop-log l = l.drawn.items ≡ map stamp_and_node (all_events (take l.log-index l.logs))
