use Rattle.round_decisions.proofs.PlayLaws.{began-there, began-want, committed-below, committed-want, played}
use Rattle.round_decisions.proofs.node_turns.play.Goals as goal

pub hear-requires-clause-want : goal.hear-requires-clause-want
hear-requires-clause-want g c = began-want c.args.net.now c.args.round c.args.sensed c.args.actor.now c.begin.new.self c.in_ok-begin.ensures.ok

pub hear-requires-clause-there : goal.hear-requires-clause-there
hear-requires-clause-there g c = began-there c.args.net.now c.law_of_network.ensures c.args.round c.args.sensed c.args.boards.now.items c.args.actor.now c.begin.new.self c.in_ok-begin.ensures.ok c.requires.can.count

pub tell-requires-clause-want : goal.tell-requires-clause-want
tell-requires-clause-want g c = committed-want c.args.net.now c.hear.new.actor c.commit.new.self c.in_ok-commit.ensures.ok

pub tell-requires-clause-below : goal.tell-requires-clause-below
tell-requires-clause-below g c =
    committed-below c.args.net.now c.args.round c.args.sensed c.args.boards.now.items c.args.actor.now c.begin.new.self c.hear.new.actor c.commit.new.self
    c.in_ok-begin.ensures.ok c.in_ok-hear.ensures.heard c.in_ok-commit.ensures.ok c.requires.can.below

pub returns : goal.returns
returns g c = record {
  played =
      played c.args.net.now c.args.round c.args.sensed c.args.boards.now.items c.tell.new.boards.items c.args.actor.now c.begin.new.self c.hear.new.actor c.commit.new.self c.tell.new.actor
      c.requires.can.sensed_at.now c.in_ok-begin.ensures.ok c.in_ok-hear.ensures.heard c.in_ok-hear.ensures.all c.in_ok-commit.ensures.ok c.in_ok-commit.ensures.kept
      c.in_ok-tell.ensures.boards c.in_ok-tell.ensures.done;
}
