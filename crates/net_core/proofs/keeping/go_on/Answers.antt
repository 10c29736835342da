use Rattle.std.proofs.Common.{◌≢◌, inl, ◌∙◌}
use Rattle.net_core.specs.States.{busy_count}
use Rattle.net_core.proofs.Opened.{some-open}
use Rattle.net_core.proofs.keeping.go_on.Goals as goal

pub returns-clause-going : goal.returns-clause-going
returns-clause-going g c =
    let playing = c.rounds.invariant.playing in
    let more : busy_count c.rounds.parts.actors.all.items ≢ 0 = λ none. c.rounds-test.false (playing.busy ∙ none) in
    record {
      going = inl (playing.in_round, some-open c.rounds.parts.actors.all.items more);
      capacity = playing.capacity;
      busy = λ other. playing.busy;
    }
