use Rattle.std.proofs.Common.{length}
use Rattle.intersection_actor.specs.Rounds.{IsOf}
use Rattle.round_decisions.specs.Steps.{HasTold}
use Rattle.round_decisions.proofs.TellLaws.{still_left}
use Rattle.round_decisions.proofs.node_turns.tell.Given as goal

abbrev pub invariant-loop-link : goal.invariant-loop-link
invariant-loop-link l = record {
  told : HasTold l.net l.fn.actor l.actor l.fn.boards.items l.boards.items;
  of : IsOf l.net l.actor;
}

abbrev pub decreases-loop-link : goal.decreases-loop-link
decreases-loop-link l = still_left (length l.fn.boards.items) l.actor.want
