use Rattle.actuated.proofs.ActWaits.{run-empties, run-waits}
use Rattle.actuated.proofs.actuated_waits.law_of_actuated_waits.Goals as goal

pub returns-clause-waits : goal.returns-clause-waits
returns-clause-waits c = run-waits

pub returns-clause-empties : goal.returns-clause-empties
returns-clause-empties c = run-empties
