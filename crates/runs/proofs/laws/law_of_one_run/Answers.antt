use Rattle.runs.proofs.One.{one-run}
use Rattle.runs.proofs.laws.law_of_one_run.Goals as goal

pub returns : goal.returns
returns c = λ arriving history one other lawful a b. one-run c.args.net.now c.law_of_network.ensures arriving history lawful one other a b
