use Rattle.std.proofs.Common.{[], refl}
use Rattle.round_decisions.proofs.PlayLaws.{played-one, turn-is}
use Rattle.round_decisions.proofs.node_turns.turn.Goals as goal

pub plan_of-requires : goal.plan_of-requires
plan_of-requires g c =
    played-one c.args.net.now c.args.round c.args.state.node c.args.state.line c.args.state.sensed c.args.boards.now.items c.play.new.boards.items c.standing-actor.result c.play.new.actor
    c.standing-actor.ensures.rests c.in_ok-play.ensures.played

pub returns-clause-turn : goal.returns-clause-turn
returns-clause-turn g c =
    turn-is c.args.net.now c.args.round c.args.state.node c.args.state.line c.args.state.sensed c.args.boards.now.items c.play.new.boards.items c.standing-actor.result c.play.new.actor
    c.standing-actor.ensures.rests c.in_ok-play.ensures.played c.plan_of.result.plan c.plan_of.result.line c.play.new.actor.records [] c.plan_of.ensures.line refl c.plan_of.ensures.plan

pub returns-clause-later : goal.returns-clause-later
returns-clause-later g c = rw c.plan_of.ensures.line c.in_ok-play.ensures.played.later
