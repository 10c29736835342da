use Rattle.std.proofs.Common.{◌≢◌}
use Rattle.round_states.specs.declared.faults.StateFault.TheVariants.{NoMemory}
use Rattle.commands.proofs.Flawed.{flawed}
use Rattle.round_jobs.specs.Kinds.{NodeStateText}
use Rattle.round_jobs.proofs.kinds.NodeStateFileTextKind.read.Goals as goal

pub returns-in-Err-clause-refused : goal.returns-in-Err-clause-refused
returns-in-Err-clause-refused c =
    flawed (NodeStateText _ _) (λ f. f ≢ NoMemory) c.in-Err.fault _ _ c.from_fault.ensures c.requires (λ of said reads. c.in-Err.ensures.refused of said reads.1) (λ of. (c.in-Err.ensures.first, of))
