use Rattle.std.proofs.Common.{◌≤◌, All, Contains, take}
use Rattle.parallel_dp.proofs.ways.cheapest.Given as goal

-- one of the entries, with no more delay than those so far
abbrev pub invariant-loop-entry : goal.invariant-loop-entry
invariant-loop-entry l = record {
  among : Contains l.entries l.best;
  least : All (λ e. l.best.delay ≤ e.delay) (take l.entry-index l.entries);
}
