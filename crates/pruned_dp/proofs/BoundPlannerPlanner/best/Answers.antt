use Rattle.schedule_meaning.proofs.Choosing.{best-only}
use Rattle.pruned_dp.proofs.BoundPlannerPlanner.best.Goals as goal

pub returns-clause-only : goal.returns-clause-only
returns-clause-only g c = best-only c.args.i.now c.bounded_in.result c.bounded_in.ensures.best
