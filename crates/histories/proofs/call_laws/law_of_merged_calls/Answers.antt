use Rattle.histories.proofs.Theorem.{law-lawful, law-one, law-told}
use Rattle.histories.proofs.call_laws.law_of_merged_calls.Goals as goal

pub returns-clause-lawful : goal.returns-clause-lawful
returns-clause-lawful c = λ calls logs h are tied merge. law-lawful c.args.net.now c.law_of_network.ensures calls logs are tied h merge

pub returns-clause-one : goal.returns-clause-one
returns-clause-one c = λ calls logs h other are tied merge again. law-one c.args.net.now c.law_of_network.ensures calls logs are tied h other merge again

pub returns-clause-stands : goal.returns-clause-stands
returns-clause-stands c = λ calls logs h are tied agree merge. law-told c.args.net.now c.law_of_network.ensures calls logs are tied agree h merge
