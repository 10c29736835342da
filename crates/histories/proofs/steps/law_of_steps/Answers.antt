use Rattle.histories.proofs.Players.{are-steps}
use Rattle.histories.proofs.steps.law_of_steps.Goals as goal

pub returns : goal.returns
returns c = are-steps c.args.net.now c.law_of_network.ensures
