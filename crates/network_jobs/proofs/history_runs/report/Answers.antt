use Rattle.std.proofs.Common.{Vec, Global, ℕ}
use Rattle.std.proofs.lemmas.Result.{IfOk-weaker}
use Rattle.arrivals.specs.Amounts.{arriving_of}
use Rattle.network_jobs.specs.Headline.{Headline}
use Rattle.network_jobs.proofs.Headlines.{headline}
use Rattle.network_jobs.proofs.history_runs.report.Goals as goal

pub returns : goal.returns
returns c =
    IfOk-weaker c.render.result _ (λ (text : Vec ℕ Global). Headline c.args.net.now (arriving_of c.args.arrivals.now) c.args.h.now text.items)
    (λ text is. headline c.args.net.now c.law_of_network.ensures c.law_of_reports.ensures.clean c.args.arrivals.now c.requires.arrivals c.args.h.now c.in_ok-run.run' text.items c.in_ok-run.ensures.kept is)
    c.render.ensures.text
