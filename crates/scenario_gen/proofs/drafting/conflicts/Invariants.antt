use Rattle.std.proofs.Common.{◌≡◌}
use Rattle.std.specs.List.{flat_map, range_with_len}
use Rattle.scenario_gen.specs.Drafts.{conflicts}
use Rattle.scenario_gen.proofs.drafting.conflicts.Given as goal

abbrev pub invariant-loop-node : goal.invariant-loop-node
invariant-loop-node l = l.conflicts.items ≡ flat_map (conflicts l.side) (range_with_len 0 l.node)
