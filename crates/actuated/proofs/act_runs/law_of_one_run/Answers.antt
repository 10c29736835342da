use Rattle.actuated.proofs.OneRun.{one-run}
use Rattle.actuated.proofs.act_runs.law_of_one_run.Goals as goal

pub returns : goal.returns
returns c = λ arriving one other a b. one-run c.args.net.now c.law_of_network.ensures arriving one other a b
