use Rattle.audit.proofs.CleanWaitLaws.{clean-empties, clean-waits}
use Rattle.audit.proofs.clean_waits.law_of_clean_waits.Goals as goal

pub returns-clause-waits : goal.returns-clause-waits
returns-clause-waits c = clean-waits c.args.net.now c.law_of_network.ensures

pub returns-clause-empties : goal.returns-clause-empties
returns-clause-empties c = clean-empties c.args.net.now c.law_of_network.ensures
