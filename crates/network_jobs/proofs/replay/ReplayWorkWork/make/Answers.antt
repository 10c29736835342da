use Rattle.arrivals.specs.Amounts.{arriving_of}
use Rattle.commands.proofs.Outcomes.{failed}
use Rattle.network_jobs.specs.Meanings.{replay_meaning}
use Rattle.network_jobs.proofs.replay.ReplayWorkWork.make.Goals as goal

pub returns-in_err-read : goal.returns-in_err-read
returns-in_err-read g c = failed (replay_meaning c.args.self.now.net.now c.args.self.now.arr.now c.args.self.now.hist.now) _ _ c.from_residual.result _ c.in_err-read.ensures.refused c.from_residual.ensures.1

pub returns : goal.returns
returns g c = (
  c.in_ok-read.ensures.ok,
  (
    (c.in_ok-read.read.scene.network, (arriving_of c.in_ok-read.read.scene.arrivals, (c.in_ok-read.read.value, tt))),
    c.in_ok-read.ensures.texts,
    ((c.in_ok-text.ensures, λ against. against), λ what missing. missing),
  ),
)
