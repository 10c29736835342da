use Rattle.arrivals.specs.Amounts.{arriving_of}
use Rattle.commands.proofs.Outcomes.{failed, handed_on}
use Rattle.network_jobs.specs.Meanings.{instance_meaning}
use Rattle.network_jobs.proofs.Missed.{missed, none_missed}
use Rattle.network_jobs.proofs.instance.InstanceWorkWork.make.Goals as goal

pub returns-in_err-read : goal.returns-in_err-read
returns-in_err-read g c = let args = c.args.self.now in failed (instance_meaning args.net.now args.arr.now args.hist.now args.node.now args.round) _ _ c.from_residual.result _ c.in_err-read.ensures.refused c.from_residual.ensures.1

pub returns-in_err-text : goal.returns-in_err-text
returns-in_err-text g c =
    let args = c.args.self.now in
    let made = c.in_ok-read in
    let texts = made.ensures.texts in
    handed_on (instance_meaning args.net.now args.arr.now args.hist.now args.node.now args.round) _ _ c.from_residual-in_err-text.result _
    (missed args.net.now args.arr.now args.hist.now args.node.now args.round made.read.scene.network (arriving_of made.read.scene.arrivals) made.read.value _ _ _ made.ensures.ok
    texts.0 texts.1.0 texts.1.1.0 c.in_err-text.ensures.refused) c.from_residual-in_err-text.ensures.1

pub returns : goal.returns
returns g c =
    let args = c.args.self.now in
    let made = c.in_ok-read in
    let text = c.in_ok-text in (
      made.ensures.ok,
      (
        (made.read.scene.network, (arriving_of made.read.scene.arrivals, (made.read.value, tt))),
        made.ensures.texts,
        (
          (text.ensures.planned, λ against. against),
          none_missed args.net.now args.arr.now args.hist.now args.node.now args.round made.read.scene.network (arriving_of made.read.scene.arrivals) made.read.value text.ensures.exists.0 text.ensures.exists.1,
        ),
      ),
    )
