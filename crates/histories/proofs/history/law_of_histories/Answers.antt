use Rattle.std.proofs.Common.{length}
use Rattle.histories.specs.Steps.{board_steps}
use Rattle.histories.proofs.Prefixes.{beginning}
use Rattle.histories.proofs.Rounds.{all-done, has-all}
use Rattle.histories.proofs.StepLaws.{steps-beyond}
use Rattle.histories.proofs.TurnOrder.{goes-on}
use Rattle.histories.proofs.history.law_of_histories.Goals as goal

pub returns-clause-goes_on : goal.returns-clause-goes_on
returns-clause-goes_on c = λ done h way. let net = c.args.net.now in goes-on (board_steps net) (length net.node_names) (λ n past. steps-beyond net c.law_of_network.ensures n past) net.run.rounds done h way

pub returns-clause-over : goal.returns-clause-over
returns-clause-over c = λ done h way. let net = c.args.net.now in ((λ all. all-done (board_steps net) net.run.rounds done h way all), (λ over. has-all (board_steps net) net.run.rounds done h way over))

pub returns-clause-begins : goal.returns-clause-begins
returns-clause-begins c = λ h place all inside. let net = c.args.net.now in beginning (board_steps net) (length net.node_names) (λ n past. steps-beyond net c.law_of_network.ensures n past) net.run.rounds h all place inside
