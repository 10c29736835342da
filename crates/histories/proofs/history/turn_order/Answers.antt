use Rattle.std.proofs.Common.{rules, ◌≡◌, sym, subst, length}
use Rattle.histories.specs.Steps.{board_steps}
use Rattle.histories.specs.Histories.{turn_order, IsLawful}
use Rattle.histories.proofs.StepLaws.{steps-beyond}
use Rattle.histories.proofs.TurnOrder.{repeated-more, turns-rounds}
use Rattle.histories.proofs.history.turn_order.Goals as goal

pub loop-done-preserved : goal.loop-done-preserved
loop-done-preserved c = repeated-more c.push_turns.new.round.items c.loop-done.done c.loop-done.steps.items c.extend_from_slice.new.self.items c.loop-done.invariant (search rules)

pub returns-clause-lawful : goal.returns-clause-lawful
returns-clause-lawful c =
    let net = c.args.net.now in
    let value : c.new.result ≡ turn_order net = search rules in
    subst (IsLawful net) (sym value) (turns-rounds (board_steps net) (length net.node_names) (λ n past. steps-beyond net c.run-done-end.ensures.network n past) net.run.rounds)
