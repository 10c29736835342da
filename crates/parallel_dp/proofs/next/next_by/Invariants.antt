use Rattle.std.proofs.Common.{◌+◌, ◌≤◌}
use Rattle.parallel_dp.proofs.NextLaws.{AreSplit}
use Rattle.parallel_dp.proofs.next.next_by.Given as goal

-- what is next after the entries so far is in the two lists
abbrev pub invariant-loop-entry : goal.invariant-loop-entry
invariant-loop-entry g l = record {
  split : AreSplit l.i l.piece l.entry-index l.phase l.kept.items l.anew.items;
  steps : l.steps ≤ l.initial.steps + l.entry-index;
}
