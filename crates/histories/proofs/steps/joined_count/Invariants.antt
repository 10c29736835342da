use Rattle.std.proofs.Common.{◌≡◌, length, filter, take}
use Rattle.histories.specs.Sides.{has_node}
use Rattle.histories.proofs.steps.joined_count.Given as goal

abbrev pub invariant-loop-link : goal.invariant-loop-link
invariant-loop-link l = l.count ≡ length (filter (has_node l.net l.side) (take l.link-index l.links))
