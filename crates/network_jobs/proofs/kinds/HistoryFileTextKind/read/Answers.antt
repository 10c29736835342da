use Rattle.std.proofs.Common.{◌≢◌}
use Rattle.delay_report.specs.declared.faults.HistoryFault.TheVariants.{NoMemory}
use Rattle.commands.proofs.Flawed.{flawed}
use Rattle.network_jobs.specs.Kinds.{HistoryText}
use Rattle.network_jobs.proofs.kinds.HistoryFileTextKind.read.Goals as goal

pub returns-in-Err-clause-refused : goal.returns-in-Err-clause-refused
returns-in-Err-clause-refused c =
    flawed (HistoryText _) (λ f. f ≢ NoMemory) c.in-Err.fault _ _ c.from_fault.ensures c.requires (λ of said reads. c.in-Err.ensures.refused of said reads.1) (λ of. (c.in-Err.ensures.first, of))
