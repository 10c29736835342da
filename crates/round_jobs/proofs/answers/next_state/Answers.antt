use Rattle.std.proofs.Common.{◌≢◌}
use Rattle.round_states.specs.declared.faults.StateFault.TheVariants.{NoMemory}
use Rattle.round_jobs.specs.Serving.{NextText}
use Rattle.round_jobs.proofs.Refused.{has-line, refused}
use Rattle.round_jobs.proofs.answers.next_state.Goals as goal

pub returns-in-Err-clause-refused : goal.returns-in-Err-clause-refused
returns-in-Err-clause-refused c = λ told kept. rw c.into_refusal.ensures
    (refused (NextText _ told) (λ f. f ≢ NoMemory) c.in-Err.fault _ _ c.from_fault.ensures c.requires.few
    (λ of said reads. c.in-Err.ensures.refused told kept of said reads.1) (λ of. (c.in-Err.ensures.first told kept, of)))

pub returns-in-Err-clause-line : goal.returns-in-Err-clause-line
returns-in-Err-clause-line c = rw c.into_refusal.ensures (has-line c.from_fault.result)
