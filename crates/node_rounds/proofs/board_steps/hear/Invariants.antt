use Rattle.std.proofs.Common.{length}
use Rattle.intersection_actor.specs.Rounds.{IsOf}
use Rattle.node_rounds.specs.Nodes.{HasHeard, IsSamePass}
use Rattle.node_rounds.proofs.board_steps.hear.Given as goal

abbrev pub invariant-loop-link : goal.invariant-loop-link
invariant-loop-link g l = record {
  heard : HasHeard l.fn.actor l.actor l.fn.pass l.pass;
  of : IsOf l.setting.net.now l.actor;
  same : IsSamePass l.fn.pass l.pass;
}

abbrev pub decreases-loop-link : goal.decreases-loop-link
decreases-loop-link g l = length l.actor.left
