use Rattle.std.proofs.Common.{◌≡◌, length}
use Rattle.arrivals.specs.Amounts.{arriving_of}
use Rattle.actuated.specs.RunsSoFar.{HavePlayed}
use Rattle.actuated.proofs.act_runs.play_rounds.Given as goal

abbrev pub invariant-loop-round : goal.invariant-loop-round
invariant-loop-round l = record {
  near : length l.near.items ≡ length l.net.link_names;
  played : HavePlayed l.net (arriving_of l.arrivals) l._round l.lines.items l.world;
}
