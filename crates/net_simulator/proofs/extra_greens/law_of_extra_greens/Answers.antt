use Rattle.net_simulator.proofs.ExtraGreenLaws.{extra-greens-help}
use Rattle.net_simulator.proofs.extra_greens.law_of_extra_greens.Goals as goal

pub returns : goal.returns
returns c = extra-greens-help
