use Rattle.std.proofs.Common.{◌≢◌}
use Rattle.spillback_world.specs.declared.store_faults.StoreFault.TheVariants.{NoMemory}
use Rattle.commands.proofs.Flawed.{flawed}
use Rattle.controller_jobs.specs.Kinds.{StoreText}
use Rattle.controller_jobs.proofs.kinds.StoreFileTextKind.read.Goals as goal

pub returns-in-Err-clause-refused : goal.returns-in-Err-clause-refused
returns-in-Err-clause-refused c =
    flawed (StoreText _) (λ f. f ≢ NoMemory) c.in-Err.fault _ _ c.from_fault.ensures c.requires (λ of said reads. c.in-Err.ensures.refused of said reads.1) (λ of. (c.in-Err.ensures.first, of))
