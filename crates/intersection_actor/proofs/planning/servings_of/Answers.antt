use Rattle.intersection_actor.proofs.ServedLaws.{best-short}
use Rattle.intersection_actor.proofs.planning.servings_of.Goals as goal

pub servings-requires : goal.servings-requires
servings-requires c = rw c.as_slice.ensures (best-short c.args.i.now c.args.answer.now c.in-Plan.sequence c.in-Plan.delay c.head.ensures.instance c.requires c.in-Plan.is)
