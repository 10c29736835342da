use Rattle.arrivals.specs.Amounts.{arriving_of}
use Rattle.controller_jobs.specs.Meanings.{scale_meaning}
use Rattle.commands.proofs.Outcomes.{failed, handed_on}
use Rattle.controller_jobs.proofs.FactorLaws.{none-missing, refused}
use Rattle.controller_jobs.proofs.scale.scale_files.Goals as goal

pub returns-in_err-scene : goal.returns-in_err-scene
returns-in_err-scene g c =
    let range = c.args.range.now in
    failed (scale_meaning c.args.net.now c.args.arr.now range.first range.last range.step) _ _ c.from_residual.result _ c.in_err-scene.ensures.refused c.from_residual.ensures.1

pub returns-in_err-text : goal.returns-in_err-text
returns-in_err-text g c =
    let range = c.args.range.now in
    let read = c.in_ok-scene in
    handed_on (scale_meaning c.args.net.now c.args.arr.now range.first range.last range.step) _ _ c.from_residual-in_err-text.result _
    (refused c.args.net.now c.args.arr.now range.first range.last range.step read.scene.network (arriving_of read.scene.arrivals) _ _ _ read.ensures.ok read.ensures.texts.0 read.ensures.texts.1.0 c.in_err-text.ensures.refused)
    c.from_residual-in_err-text.ensures.1

pub returns : goal.returns
returns g c =
    let range = c.args.range.now in
    let read = c.in_ok-scene in (
      read.ensures.ok,
      (
        (read.scene.network, (arriving_of read.scene.arrivals, tt)),
        read.ensures.texts,
        (
          (c.in_ok-text.ensures.table, λ against. against),
          none-missing c.args.net.now c.args.arr.now range.first range.last range.step read.scene.network (arriving_of read.scene.arrivals) c.in_ok-text.ensures.few,
        ),
      ),
    )
