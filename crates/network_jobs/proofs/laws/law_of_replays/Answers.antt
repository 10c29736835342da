use Rattle.histories.specs.Histories.{turn_order}
use Rattle.network_jobs.proofs.Replays.{replayed}
use Rattle.network_jobs.proofs.laws.law_of_replays.Goals as goal

pub returns-clause-net : goal.returns-clause-net
returns-clause-net c file arr hist arriving history bytes again wrote tells wrote_again =
    replayed c.args.net.now c.law_of_one_run.ensures c.law_of_reports.ensures.reads_back c.law_of_reports.ensures.one arriving wrote.history history bytes again wrote.headline tells wrote_again

pub returns-clause-turns : goal.returns-clause-turns
returns-clause-turns c file arr hist arriving history bytes again wrote tells wrote_again =
    replayed c.args.net.now c.law_of_one_run.ensures c.law_of_reports.ensures.reads_back c.law_of_reports.ensures.one arriving (turn_order c.args.net.now) history bytes again wrote tells wrote_again

pub returns-clause-replay : goal.returns-clause-replay
returns-clause-replay c file arr hist arriving given history bytes again wrote tells wrote_again =
    replayed c.args.net.now c.law_of_one_run.ensures c.law_of_reports.ensures.reads_back c.law_of_reports.ensures.one arriving given history bytes again wrote tells wrote_again
