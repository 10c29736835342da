use Rattle.waits.proofs.BoundLaws.{empties, waits-within}
use Rattle.waits.proofs.laws.law_of_waits.Goals as goal

pub returns-clause-waits : goal.returns-clause-waits
returns-clause-waits c = waits-within

pub returns-clause-empties : goal.returns-clause-empties
returns-clause-empties c = empties
