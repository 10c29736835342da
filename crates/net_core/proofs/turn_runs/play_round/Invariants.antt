use Rattle.std.proofs.Common.{◌≡◌, ◌++◌, ℕ, List}
use Rattle.histories.specs.Histories.{turns}
use Rattle.histories.specs.Steps.{board_steps}
use Rattle.intersection_actor.specs.declared.records.PlanRecord.{PlanRecord}
use Rattle.net_core.specs.States.{AreBetween, AreInRound}
use Rattle.net_core.proofs.turn_runs.play_round.Given as goal

abbrev pub invariant-loop-node : goal.invariant-loop-node
invariant-loop-node g l = record {
  played : (h : List ℕ) (plans : List PlanRecord) → AreBetween l.net l.arrivals h plans l.fn.parts → AreInRound l.net l.arrivals (h ++ turns (board_steps l.net) l.node) plans l.parts;
  round : l.parts.round ≡ l.fn.parts.round;
}
