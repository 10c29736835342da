use Rattle.intersection_actor.specs.Rounds.{IsOf}
use Rattle.node_rounds.specs.Nodes.{HasTold, IsSamePass}
use Rattle.node_rounds.proofs.TellLaws.{told_among}
use Rattle.node_rounds.proofs.board_steps.tell.Given as goal

abbrev pub invariant-loop-link : goal.invariant-loop-link
invariant-loop-link g l = record {
  told : HasTold l.setting.net.now l.fn.actor l.actor l.fn.pass l.pass (told_among l.setting.net.now l.link-items l.link-index);
  of : IsOf l.setting.net.now l.actor;
  same : IsSamePass l.fn.pass l.pass;
}
