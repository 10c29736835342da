use Rattle.std.proofs.Common.{length}
use Rattle.intersection_actor.specs.Rounds.{IsOf}
use Rattle.net_parts.specs.Numbers.{Net}
use Rattle.round_decisions.specs.Steps.{HasHeard}
use Rattle.round_decisions.proofs.node_turns.hear.Given as goal

abbrev pub invariant-loop-link : goal.invariant-loop-link
invariant-loop-link l = record {
  heard : HasHeard l.boards.items l.fn.actor l.actor;
  of : (net : Net) → IsOf net l.fn.actor → IsOf net l.actor;
}

abbrev pub decreases-loop-link : goal.decreases-loop-link
decreases-loop-link l = length l.actor.left
