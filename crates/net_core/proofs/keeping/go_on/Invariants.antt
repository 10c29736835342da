use Rattle.std.proofs.Common.{◌≡◌, ◌-◌}
use Rattle.net_core.specs.States.{IsPlaying}
use Rattle.net_core.proofs.keeping.go_on.Given as goal

abbrev pub invariant-rounds : goal.invariant-rounds
invariant-rounds g l = record {
  playing : IsPlaying l.net l.arrivals l.parts l.kept;
  history : l.kept.history ≡ l.initial.kept.history;
}

abbrev pub decreases-rounds : goal.decreases-rounds
decreases-rounds g l = l.net.run.rounds - l.parts.round
