use Rattle.histories.specs.Steps.{board_steps}
use Rattle.histories.proofs.Versions.{version-law, version-rises}
use Rattle.histories.proofs.history.law_of_versions.Goals as goal

pub returns-clause-rise : goal.returns-clause-rise
returns-clause-rise c = λ h link early late order. version-rises (board_steps c.args.net.now) h link early late order

pub returns-clause-round : goal.returns-clause-round
returns-clause-round c = λ h link place all inside from to. version-law c.args.net.now c.law_of_network.ensures link h place all inside from to
