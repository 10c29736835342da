use Rattle.schedule_meaning.proofs.Choosing.{best-only}
use Rattle.forward_dp.proofs.LayerPlannerPlanner.best.Goals as goal

pub returns-clause-only : goal.returns-clause-only
returns-clause-only g c = best-only c.args.i.now c.layered.result c.layered.ensures.best
