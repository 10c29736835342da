use Rattle.std.proofs.Common.{◌≡◌, ◌++◌, map, filter, take}
use Rattle.histories.specs.Sides.{has_node, step_across}
use Rattle.histories.proofs.steps.push_steps.Given as goal

abbrev pub invariant-loop-link : goal.invariant-loop-link
invariant-loop-link l = l.steps.items ≡ l.fn.steps.items ++ map (step_across l.side) (filter (has_node l.net l.side) (take l.link-index l.links))
