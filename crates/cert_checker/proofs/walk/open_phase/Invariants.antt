use Rattle.std.proofs.Common.{ℕ, ◌+◌, ◌<◌, ◌≤◌}
use Rattle.dp_certificate.specs.Proves.{IsClosedAt}
use Rattle.cert_checker.proofs.walk.open_phase.Given as goal

-- the entry is closed at the phases so far, in at most one step for each
abbrev pub invariant-loop-phase : goal.invariant-loop-phase
invariant-loop-phase g l = record {
  closed : (k : ℕ) → k < l.phase → IsClosedAt l.c l.entry k;
  cost : l.steps ≤ l.initial.steps + l.phase;
}
