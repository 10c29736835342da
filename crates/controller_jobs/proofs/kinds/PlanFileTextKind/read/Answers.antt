use Rattle.std.proofs.Common.{◌≢◌}
use Rattle.fixed_plans.specs.declared.faults.FixedFault.TheVariants.{NoMemory}
use Rattle.commands.proofs.Flawed.{flawed}
use Rattle.controller_jobs.specs.Kinds.{PlanText}
use Rattle.controller_jobs.proofs.kinds.PlanFileTextKind.read.Goals as goal

pub returns-in-Err-clause-refused : goal.returns-in-Err-clause-refused
returns-in-Err-clause-refused c =
    flawed (PlanText _) (λ f. f ≢ NoMemory) c.in-Err.fault _ _ c.from_fault.ensures c.requires (λ of said reads. c.in-Err.ensures.refused of said reads.1) (λ of. (c.in-Err.ensures.first, of))
