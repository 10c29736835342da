use Rattle.std.proofs.Common.{◌≡◌, ◌++◌, take}
use Rattle.scenario_gen.specs.Drafts.{conflicts_of}
use Rattle.scenario_gen.proofs.drafting.push_conflicts.Given as goal

abbrev pub invariant-loop-a : goal.invariant-loop-a
invariant-loop-a l = l.conflicts.items ≡ l.fn.conflicts.items ++ conflicts_of (take l.a-index l.first) l.second
