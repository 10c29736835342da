use Rattle.std.proofs.Common.{◌≢◌}
use Rattle.audit.specs.declared.sheet_faults.SheetFault.TheVariants.{NoMemory}
use Rattle.commands.proofs.Flawed.{flawed}
use Rattle.audit_jobs.specs.Kinds.{SheetText}
use Rattle.audit_jobs.proofs.kinds.SheetFileTextKind.read.Goals as goal

pub returns-in-Err-clause-refused : goal.returns-in-Err-clause-refused
returns-in-Err-clause-refused c =
    flawed (SheetText _) (λ f. f ≢ NoMemory) c.in-Err.fault _ _ c.from_fault.ensures c.requires (λ of said reads. c.in-Err.ensures.refused of said reads.1) (λ of. (c.in-Err.ensures.first, of))
