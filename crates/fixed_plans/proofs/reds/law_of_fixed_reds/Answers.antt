use Rattle.fixed_plans.proofs.RedLaws.{fixed-reds}
use Rattle.fixed_plans.proofs.reds.law_of_fixed_reds.Goals as goal

pub returns : goal.returns
returns c = fixed-reds
