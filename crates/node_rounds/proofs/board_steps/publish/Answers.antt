use Rattle.node_rounds.proofs.TellLaws.{sent-as}
use Rattle.node_rounds.proofs.board_steps.publish.Goals as goal

pub returns-clause-sent : goal.returns-clause-sent
returns-clause-sent g c = sent-as c.args.setting.now.net.now c.args.link c.args.actor.now c.sent.new.self c.args.pass.now c.send.new.pass c.in_ok-forecast.forecast c.in_ok-send.field-0 c.in_ok-send.ensures.sent
    (c.in_ok-forecast.ensures.value c.args.link c.requires.want) (c.sent.ensures.next c.args.link c.requires.want) c.sent.ensures.tells
