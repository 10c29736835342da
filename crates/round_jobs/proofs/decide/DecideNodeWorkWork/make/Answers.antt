use Rattle.round_jobs.specs.Meanings.{decide_node_meaning}
use Rattle.commands.proofs.Outcomes.{failed, handed_on}
use Rattle.round_jobs.proofs.Decided.{missed, none_missed}
use Rattle.round_jobs.proofs.decide.DecideNodeWorkWork.make.Goals as goal

pub returns-in_err-network : goal.returns-in_err-network
returns-in_err-network g c = failed (decide_node_meaning c.args.self.now.net.now c.args.self.now.state.now c.args.self.now.node.now) _ _ c.from_residual.result _ c.in_err-network.ensures.refused c.from_residual.ensures.1

pub returns-in_err-text : goal.returns-in_err-text
returns-in_err-text g c =
    let made = c.in_ok-network in
    handed_on (decide_node_meaning c.args.self.now.net.now c.args.self.now.state.now c.args.self.now.node.now) _ _ c.from_residual-in_err-text.result _
    (missed c.args.self.now.net.now c.args.self.now.state.now c.args.self.now.node.now made.field-0.network made.field-0.value _ _ _ made.ensures.ok made.ensures.texts.0 made.ensures.texts.1.0 c.in_err-text.ensures.refused) c.from_residual-in_err-text.ensures.1

pub returns : goal.returns
returns g c = (
  c.in_ok-network.ensures.ok,
  (
    (c.in_ok-network.field-0.network, (c.in_ok-network.field-0.value, tt)),
    c.in_ok-network.ensures.texts,
    (
      (c.in_ok-text.ensures.text, λ against. against),
      none_missed c.args.self.now.net.now c.args.self.now.state.now c.args.self.now.node.now c.in_ok-network.field-0.network c.in_ok-network.field-0.value c.in_ok-text.ensures.exists,
    ),
  ),
)
