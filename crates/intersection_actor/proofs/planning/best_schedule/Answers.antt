use Rattle.std.proofs.Common.{◌∙◌}
use Rattle.intersection_actor.specs.Commits.{AreServedBy}
use Rattle.intersection_actor.proofs.ServedLaws.{schedule-made}
use Rattle.intersection_actor.proofs.planning.best_schedule.Goals as goal

pub returns : goal.returns
returns g c =
    let served : AreServedBy c.args.i.now c.in_ok-answer.answer c.from_vec-2.result = rw c.from_vec-2.ensures c.in_ok-served.ensures in
    schedule-made c.args.i.now c.in_ok-answer.answer c.from_vec.result c.from_vec-2.result c.head.ensures.instance c.in_ok-answer.ensures.best (c.from_vec.ensures ∙ c.in_ok-phases.ensures) served
