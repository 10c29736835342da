use Rattle.fixed_plans.proofs.CycleGreens.{cycles-come}
use Rattle.fixed_plans.proofs.fixed_waits.law_of_cycles.Goals as goal

pub returns : goal.returns
returns c = cycles-come
