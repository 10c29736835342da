use Rattle.spillback_control.proofs.OneRun.{one-spill}
use Rattle.spillback_control.proofs.spill_runs.law_of_one_spill.Goals as goal

pub returns : goal.returns
returns c = λ arriving store one other a b. one-spill c.args.net.now c.law_of_network.ensures arriving store one other a b
