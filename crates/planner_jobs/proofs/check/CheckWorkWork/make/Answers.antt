use Rattle.planner_jobs.proofs.check.CheckWorkWork.make.Goals as goal

pub returns : goal.returns
returns g c =
    let said = c.in_ok-certificate in
    (said.ensures.ok, ((said.certificate, tt), (said.ensures.text, tt), (c.in_ok-made.ensures c.args.self.now.file.now, λ what missing. missing)))
