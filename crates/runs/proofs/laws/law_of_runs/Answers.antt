use Rattle.std.proofs.Common.{arith}
use Rattle.runs.proofs.Keep.{all-keep}
use Rattle.runs.proofs.PromiseLaws.{kept}
use Rattle.runs.proofs.CompleteLaws.{whole}
use Rattle.runs.proofs.laws.law_of_runs.Goals as goal

pub returns-clause-kept : goal.returns-clause-kept
returns-clause-kept c = λ arriving history record_of_run lawful run.
    let net = c.args.net.now in
    let network = c.law_of_network.ensures in
    kept net network arriving history lawful record_of_run run (all-keep net network arriving run.heard run.made net.run.rounds (omega arith) run.by.commits)

pub returns-clause-whole : goal.returns-clause-whole
returns-clause-whole c = λ arriving history record_of_run lawful run. whole c.args.net.now c.law_of_network.ensures arriving history lawful record_of_run run
