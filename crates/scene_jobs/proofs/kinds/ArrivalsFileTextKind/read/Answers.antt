use Rattle.std.proofs.Common.{◌≢◌}
use Rattle.arrivals.specs.declared.rows.RowFault.TheVariants as row
use Rattle.commands.proofs.Flawed.{flawed}
use Rattle.scene_jobs.specs.Kinds.{ArrivalsText}
use Rattle.scene_jobs.proofs.kinds.ArrivalsFileTextKind.read.Goals as goal

pub returns-in-Err-clause-refused : goal.returns-in-Err-clause-refused
returns-in-Err-clause-refused c =
    let fault = c.in-Err.fault in
    flawed (ArrivalsText _) (λ f. f ≢ row.NoMemory) fault _ _ c.from_fault.ensures c.requires
    (λ of said reads. c.in-Err.ensures.refused of reads.1.arrivals reads.1.of_text) (λ of. (c.in-Err.ensures.first, of))
