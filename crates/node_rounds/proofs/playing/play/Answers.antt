use Rattle.node_rounds.proofs.PlayLaws.{is-done, played}
use Rattle.node_rounds.proofs.playing.play.Goals as goal

pub rest-requires : goal.rest-requires
rest-requires g c = is-done c.args.setting.now.net.now c.commit.new.self c.tell.new.actor c.hear.new.pass c.tell.new.pass c.in_ok-tell.ensures.told

pub returns-clause-played : goal.returns-clause-played
returns-clause-played g c = λ world rested can begins.
    played c.args.setting.now.net.now c.args.setting.now.round world rested c.args.actor.now c.hear.new.actor c.commit.new.self c.tell.new.actor c.rest.new.self c.args.pass.now c.hear.new.pass c.tell.new.pass
    begins.sensed begins.seen begins.actor c.in_ok-hear.ensures.heard c.in_ok-hear.ensures.all c.in_ok-commit.ensures.ok c.in_ok-commit.ensures.kept
    c.in_ok-tell.ensures.told c.rest.ensures.rests (c.rest.ensures.of c.args.setting.now.net.now c.in_ok-tell.ensures.of) c.calls_left.ensures.order
