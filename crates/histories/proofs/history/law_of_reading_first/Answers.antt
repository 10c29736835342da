use Rattle.histories.proofs.ReadFirst.{read-first-lawful, reads-round-before}
use Rattle.histories.proofs.history.law_of_reading_first.Goals as goal

pub returns-clause-lawful : goal.returns-clause-lawful
returns-clause-lawful c = read-first-lawful c.args.net.now c.law_of_network.ensures

pub returns-clause-before : goal.returns-clause-before
returns-clause-before c = reads-round-before c.args.net.now c.law_of_network.ensures
