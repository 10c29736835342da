use Rattle.planner_jobs.proofs.plan.PlanWorkWork.make.Goals as goal

pub returns : goal.returns
returns g c =
    let said = c.in_ok-instance in
    let best = c.in_ok-answer in (
      said.ensures.ok,
      (
        (said.instance, tt),
        (said.ensures.text, tt),
        (((best.answer, best.ensures.best, best.ensures.least, c.in_ok-text.ensures), λ against. against), λ what missing. missing),
      ),
    )
