use Rattle.std.proofs.Common.{◌≢◌}
use Rattle.round_states.specs.declared.faults.StateFault.TheVariants.{NoMemory}
use Rattle.round_jobs.specs.Kinds.{AskedText}
use Rattle.round_jobs.proofs.Refused.{refused}
use Rattle.round_jobs.proofs.answers.state_for.Goals as goal

pub returns-in-Err-clause-refused : goal.returns-in-Err-clause-refused
returns-in-Err-clause-refused c = rw c.into_refusal.ensures
    (refused (AskedText _ _) (λ f. f ≢ NoMemory) c.in-Err.fault _ _ c.from_fault.ensures c.requires (λ of said reads. c.in-Err.ensures.refused of said reads.1) (λ of. (c.in-Err.ensures.first, of)))
