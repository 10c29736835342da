use Rattle.controller_jobs.proofs.compare.planned_totals.Goals as goal

pub returns : goal.returns
returns c = (let turned = c.in_ok-left.ensures in record { run = turned.run; runs = turned.runs; are = turned.are.totals })
