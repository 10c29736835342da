use Rattle.fixed_plans.proofs.FixedWaits.{fixed-waits}
use Rattle.fixed_plans.proofs.fixed_waits.law_of_fixed_waits.Goals as goal

pub returns : goal.returns
returns c = fixed-waits
