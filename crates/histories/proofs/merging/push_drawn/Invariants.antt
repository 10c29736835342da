use Rattle.std.proofs.Common.{◌≡◌, ◌++◌, map, take}
use Rattle.histories.specs.Merges.{stamp_and_node}
use Rattle.histories.proofs.merging.push_drawn.Given as goal

abbrev pub invariant-loop-event : goal.invariant-loop-event
invariant-loop-event l = l.drawn.items ≡ l.fn.drawn.items ++ map stamp_and_node (take l.event-index l.log.events)
