use Rattle.arrivals.specs.Amounts.{arriving_of}
use Rattle.commands.proofs.Outcomes.{failed}
use Rattle.network_jobs.specs.Meanings.{net_meaning}
use Rattle.network_jobs.proofs.net.make_report.Goals as goal

pub returns-in_err-scene : goal.returns-in_err-scene
returns-in_err-scene g c = failed (net_meaning c.args.net.now c.args.arr.now) _ _ c.from_residual.result _ c.in_err-scene.ensures.refused c.from_residual.ensures.1

pub returns : goal.returns
returns g c =
    let made = c.in_ok-scene in
    let scene = made.scene in
    (made.ensures.ok, ((scene.network, (arriving_of scene.arrivals, tt)), made.ensures.texts, ((c.in_ok-text.ensures, λ against. against), λ what missing. missing)))
