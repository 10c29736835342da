use Rattle.std.proofs.Common.{◌≡◌, ◌++◌, ℕ, List}
use Rattle.std.specs.Prelude.{replicate}
use Rattle.intersection_actor.specs.declared.records.PlanRecord.{PlanRecord}
use Rattle.net_core.specs.States.{AreInRound, IsUnbegun}
use Rattle.net_core.proofs.turn_runs.play_node.Given as goal

abbrev pub invariant-loop-step : goal.invariant-loop-step
invariant-loop-step g l = record {
  played : (h : List ℕ) (plans : List PlanRecord) → IsUnbegun l.net l.arrivals l.node h plans l.initial.parts → AreInRound l.net l.arrivals (h ++ replicate l.step l.node) plans l.parts;
  round : l.parts.round ≡ l.initial.parts.round;
}
