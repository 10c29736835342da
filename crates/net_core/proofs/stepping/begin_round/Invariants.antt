use Rattle.std.proofs.Common.{◌≡◌, ℕ, List}
use Rattle.intersection_actor.specs.declared.records.PlanRecord.{PlanRecord}
use Rattle.net_core.specs.States.{AreBeginning, AreBetween}
use Rattle.net_core.proofs.stepping.begin_round.Given as goal

abbrev pub invariant-loop-node : goal.invariant-loop-node
invariant-loop-node g l = record {
  begins : (h : List ℕ) (plans : List PlanRecord) → AreBetween l.net l.arrivals h plans l.initial.parts → AreBeginning l.net l.arrivals h plans l.parts l.node;
  round : l.parts.round ≡ l.initial.parts.round;
}
