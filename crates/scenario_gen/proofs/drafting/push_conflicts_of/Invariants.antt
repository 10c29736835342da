use Rattle.std.proofs.Common.{◌≡◌, ◌++◌, map, take}
use Rattle.scenario_gen.specs.Drafts.{conflict}
use Rattle.scenario_gen.proofs.drafting.push_conflicts_of.Given as goal

abbrev pub invariant-loop-b : goal.invariant-loop-b
invariant-loop-b l = l.conflicts.items ≡ l.fn.conflicts.items ++ map (conflict l.a) (take l.b-index l.second)
