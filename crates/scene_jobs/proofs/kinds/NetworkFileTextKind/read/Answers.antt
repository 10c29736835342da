use Rattle.std.proofs.Common.{◌≢◌}
use Rattle.net_parts.specs.declared.faults.NetFault.TheVariants as net
use Rattle.commands.proofs.Flawed.{flawed}
use Rattle.scene_jobs.specs.Kinds.{NetworkText}
use Rattle.scene_jobs.proofs.NoReading.{no_network}
use Rattle.scene_jobs.proofs.kinds.NetworkFileTextKind.read.Goals as goal

pub returns-in-Err-clause-refused : goal.returns-in-Err-clause-refused
returns-in-Err-clause-refused c =
    let fault = c.in-Err.fault in
    flawed NetworkText (λ f. f ≢ net.NoMemory) fault _ _ c.from_fault.ensures c.requires
    (λ of said reads. no_network fault _ c.in-Err.ensures.refused of said reads.1) (λ of. (c.in-Err.ensures.first, of))
