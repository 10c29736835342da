use Rattle.intersection_actor.proofs.planning.keep_plan.Goals as goal

pub returns-clause-law : goal.returns-clause-law
returns-clause-law c = c.in_ok-splice.ensures.law
