use Rattle.runs.proofs.Planning.{run-empties, run-waits}
use Rattle.runs.proofs.planned_waits.law_of_planned_waits.Goals as goal

pub returns-clause-waits : goal.returns-clause-waits
returns-clause-waits c = run-waits

pub returns-clause-empties : goal.returns-clause-empties
returns-clause-empties c = run-empties
