use Rattle.commands.proofs.Outcomes.{failed}
use Rattle.round_jobs.specs.Meanings.{decide_meaning}
use Rattle.round_jobs.proofs.decide.DecideWorkWork.make.Goals as goal

pub returns-in_err-network : goal.returns-in_err-network
returns-in_err-network g c = failed (decide_meaning c.args.self.now.net.now c.args.self.now.state.now) _ _ c.from_residual.result _ c.in_err-network.ensures.refused c.from_residual.ensures.1

pub returns : goal.returns
returns g c = (
  c.in_ok-network.ensures.ok,
  (
    (c.in_ok-network.field-0.network, (c.in_ok-network.field-0.value, tt)),
    c.in_ok-network.ensures.texts,
    ((c.in_ok-text.ensures, λ against. against), λ what missing. missing),
  ),
)
