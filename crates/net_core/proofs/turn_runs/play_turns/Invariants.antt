use Rattle.net_core.specs.States.{AreTurned, IsBlank}
use Rattle.net_core.proofs.turn_runs.play_turns.Given as goal

abbrev pub invariant-loop-round : goal.invariant-loop-round
invariant-loop-round g l = record {
  turned : AreTurned l.net l.arrivals l.round l.parts l.tally;
  blank : IsBlank l.net l.planned;
}
