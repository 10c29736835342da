use Rattle.round_decisions.proofs.PlayLaws.{popped-one}
use Rattle.round_decisions.proofs.node_turns.plan_of.Goals as goal

pub returns-clause-plan : goal.returns-clause-plan
returns-clause-plan c = popped-one c.args.actor.records c.into_parts-line.result.1.items c.pop.new.self.items c.in-Some.plan c.into_parts-line.ensures.records c.requires c.in-Some.ensures.items
