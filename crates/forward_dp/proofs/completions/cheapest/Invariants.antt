use Rattle.std.proofs.Common.{◌≤◌, ◌+◌}
use Rattle.dp_certificate.specs.Certificates.{entry_at}
use Rattle.dp_certificate.specs.Proves.{stage_of_entry}
use Rattle.forward_dp.specs.Completions.{IsBestBelow}
use Rattle.forward_dp.proofs.completions.cheapest.Given as goal

-- the best of what begins with the phases so far
abbrev pub invariant-loop-phase : goal.invariant-loop-phase
invariant-loop-phase g l = record {
  best : IsBestBelow l.i l.later (stage_of_entry l.i (entry_at l.entries l.place)) l.phase l.best;
  steps : l.steps ≤ l.initial.steps + l.phase;
}
